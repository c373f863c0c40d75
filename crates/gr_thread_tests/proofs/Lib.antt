pub mod Numbering
pub mod Crossing
