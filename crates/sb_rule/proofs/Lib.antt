pub mod FirstRules
pub mod Leftmost
pub mod Matches
pub mod Members
pub mod PatternTexts
pub mod Rows
pub mod Spellings
