mod EventCases
pub mod EventGrants
pub mod EventLaws
pub mod EventNumbering
pub mod FileAgreement
mod FileCases
pub mod FileCreationCases
pub mod FileCreationLaws
pub mod FileLemmas
pub mod FileRowLemmas
pub mod FileSeekLemmas
pub mod FoundPipes
pub mod KeptEvents
pub mod KeptPipes
mod KeyCases
pub mod KeyGrants
pub mod KeyLaws
pub mod KeyNumbering
pub mod NamedPipes
pub mod NumberedPipes
pub mod ParentLemmas
mod PipeCases
pub mod PipeCounts
pub mod PipeDrops
pub mod PipeLaws
pub mod PipeRowCases
pub mod PipeServiceLemmas
pub mod RenameLaws
