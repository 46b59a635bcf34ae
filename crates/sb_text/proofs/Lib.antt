pub mod LineLaws
pub mod LineLemmas
pub mod NumberLaws
pub mod Scans
pub mod Conjunctions
pub mod TokenLaws
pub mod QuotedText
pub mod Utf8Laws
pub mod Values
mod WordLemmas
mod ReadingLaws
pub mod PlainLines
pub mod WrittenStrings
pub mod QuotedStrings
pub mod ColumnLaws
pub mod TokenCuts
