pub mod Maps
pub mod Ordered
