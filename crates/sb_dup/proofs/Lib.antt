pub mod Bits
pub mod Bounds
pub mod Keeping
pub mod Naming
pub mod PassLaws
pub mod PipeLaws
pub mod Utf8
pub mod Written
