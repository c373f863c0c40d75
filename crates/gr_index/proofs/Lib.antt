pub mod Answers
pub mod Marked
pub mod Turning
pub mod Under
