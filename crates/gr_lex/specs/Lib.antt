pub mod Bytes
pub mod Layout
pub mod Faults
-- how the code reads, which private clauses alone cite
pub mod Reader
