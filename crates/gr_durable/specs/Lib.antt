pub mod Answers
pub mod Expanding
pub mod Places
pub mod Results
pub mod Steps
pub mod Tables
pub mod Texts
