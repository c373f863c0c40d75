-- How the code reads. Private clauses alone cite what stands here.
pub mod Reading
