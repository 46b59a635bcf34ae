pub mod Folding
pub mod Kept
pub mod Padding
pub mod Pairs
pub mod Paths
pub mod Printable
pub mod Quotes
