pub mod Putting
pub mod Escaping
