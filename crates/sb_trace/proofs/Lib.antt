pub mod Ordering
pub mod Folds
