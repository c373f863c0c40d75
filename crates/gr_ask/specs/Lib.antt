pub mod Told
pub mod Wants
