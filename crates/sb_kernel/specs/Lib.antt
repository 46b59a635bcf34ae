pub mod Requests
pub mod Namespaces
pub mod Openings
pub mod Held
pub mod Kept
pub mod Laws
