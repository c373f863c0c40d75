pub mod Mailing
pub mod Waiting
pub mod Steps
pub mod Sessions
pub mod Clients
