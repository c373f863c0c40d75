pub mod Routes
pub mod Openings
pub mod Turning
