pub mod Calls
pub mod Clean
pub mod Converse
pub mod Keeping
pub mod Policies
mod KeptEntries
pub mod Printing
pub mod Reading
pub mod RowSteps
pub mod SlotLemmas
pub mod SpotLemmas
pub mod YesLemmas
