pub mod Ends
pub mod Houses
pub mod Joins
pub mod Mails
pub mod Works
pub mod Hosts
