pub mod Asked
pub mod Endings
pub mod Naming
pub mod Wanted
pub mod Wording
