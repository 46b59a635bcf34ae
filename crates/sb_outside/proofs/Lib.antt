pub mod Passing
pub mod Prefixes
pub mod Reading
pub mod Written
