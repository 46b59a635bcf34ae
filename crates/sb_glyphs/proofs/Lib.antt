mod Cuts
pub mod Named
mod CaretLaws
pub mod CleanLaws
