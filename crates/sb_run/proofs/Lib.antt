pub mod Crewed
pub mod Crossing
pub mod Ended
pub mod Firsts
pub mod Looking
pub mod Opened
pub mod Pooled
pub mod Running
