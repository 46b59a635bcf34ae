pub mod Arguments
pub mod CallWords
pub mod Parameters
pub mod ShortNames
pub mod Statuses
pub mod Tags
