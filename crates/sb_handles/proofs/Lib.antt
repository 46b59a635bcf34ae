pub mod IndexLemmas
pub mod ShareLemmas
pub mod SlotLemmas
pub mod TableLaws
pub mod ConflictLaws
pub mod HistoryLaws
pub mod CountLemmas
pub mod Recounting
