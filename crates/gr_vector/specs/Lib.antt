pub mod Blocks
pub mod Ids
pub mod Order
pub mod Views
