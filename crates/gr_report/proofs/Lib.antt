pub mod Digits
pub mod Commas
pub mod Gathered
pub mod Lines
pub mod Sameness
pub mod Ordered
pub mod Asked
