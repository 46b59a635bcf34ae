pub mod Bounds
pub mod PlacedLemmas
mod SoundLemmas
