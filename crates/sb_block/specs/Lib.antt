pub mod Blocks
pub mod Calls
pub mod Copies
pub mod Faults
pub mod Laws
pub mod Layout
pub mod Packing
pub mod Replies
