pub mod Apart
pub mod Counts
mod Crossing
mod Dealing
mod Playing
