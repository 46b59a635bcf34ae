pub mod Denials
pub mod Thinning
pub mod Sending
pub mod Lines
pub mod Serial
pub mod Laws
pub mod LeftOut
