pub mod Glyphs
pub mod Excerpts
pub mod Tokens
pub mod CleanTexts
pub mod Laws
