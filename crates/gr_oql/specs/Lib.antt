pub mod Tree
pub mod View
pub mod Code
pub mod Question
pub mod Events
pub mod Like
pub mod Matching
pub mod Must
pub mod Truth
pub mod Words
pub mod Terminals
pub mod Grammar
pub mod FirstFault
pub mod Questions
-- how the code reads and matches, which private clauses alone cite
pub mod Reader
