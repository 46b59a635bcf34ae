pub mod Generator
pub mod Calls
pub mod Policies
pub mod Scripts
