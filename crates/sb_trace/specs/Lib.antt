pub mod Steps
pub mod Phases
pub mod Folding
pub mod TraceTexts
pub mod Unfinished
