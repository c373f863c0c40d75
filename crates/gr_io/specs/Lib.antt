pub mod Edges
pub mod Ends
pub mod Faults
pub mod Input
pub mod Output
pub mod Streams
