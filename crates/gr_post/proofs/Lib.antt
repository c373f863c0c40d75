pub mod Lists
pub mod Steps
pub mod Ends
pub mod Helds
pub mod Moving
pub mod Carried
pub mod Counting
