pub mod Answering
pub mod Players
pub mod Pools
