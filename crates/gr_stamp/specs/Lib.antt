pub mod Expiry
pub mod Version
pub mod Winner
