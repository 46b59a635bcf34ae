pub mod Disks
pub mod Hosts
pub mod MemFiles
pub mod MemSink
pub mod Outside
