pub mod Appending
pub mod ReadWords
pub mod ReadSteps
pub mod Listed
pub mod TakenWords
pub mod NumberLaws
pub mod WrittenCommands
pub mod Worked
mod CleanUsage
mod OptionSteps
mod PlacedFiles
