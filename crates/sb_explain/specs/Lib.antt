pub mod Reasons
pub mod Listings
pub mod Marks
pub mod Sources
pub mod LineNumbers
pub mod Lines
pub mod Why
pub mod Laws
