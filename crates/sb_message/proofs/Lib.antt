mod Near
pub mod CleanPlaces
mod Numbered
mod CleanMessages
mod NoteParts
mod TrueNotes
mod CleanNotes
