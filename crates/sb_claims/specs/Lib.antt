pub mod Claims
pub mod ClosedNames
pub mod Notes
