pub mod PrintedSpaces
pub mod PrintedLengths
pub mod PrintedWords
pub mod PrintedConditions
pub mod PrintedTokens
pub mod PrintedRules
pub mod PrintedTexts
pub mod Conjunctions
mod Appended
pub mod Patterns
pub mod Dots
pub mod Joined
pub mod WellMade
pub mod Added
pub mod Prefixes
pub mod Renumbered
pub mod ReadWellMade
mod NoteWalks
