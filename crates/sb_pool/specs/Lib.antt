pub mod Counting
pub mod Events
pub mod Laws
pub mod Pools
pub mod Rooms
pub mod Rule
pub mod Views
