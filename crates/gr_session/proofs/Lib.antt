pub mod Adding
pub mod Seeing
pub mod Growing
pub mod Making
pub mod Mailing
pub mod Attending
