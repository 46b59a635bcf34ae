pub mod Fitting
pub mod HistoryLaws
pub mod Legal
pub mod Ready
pub mod Sayings
pub mod Storing
pub mod TargetLaws
