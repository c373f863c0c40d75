pub mod Staying
pub mod Adding
pub mod Parts
pub mod Gifts
pub mod Rounds
mod Lists
mod Marking
mod Seats
mod Doing
mod Steps
mod Hosting
mod Leaving
