pub mod Rooms
pub mod Telling
pub mod Finding
pub mod Pairs
pub mod Untold
