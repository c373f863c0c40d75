-- How the code reads and matches. Private clauses alone cite what stands here.
pub mod Lexemes
pub mod Names
pub mod Reading
pub mod Gives
pub mod Asking
pub mod Answers
pub mod Walk
