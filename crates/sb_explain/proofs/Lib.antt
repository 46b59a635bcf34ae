pub mod Capping
pub mod Telling
