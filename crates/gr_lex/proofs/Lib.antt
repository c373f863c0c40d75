pub mod Scans
pub mod InTurn
pub mod Fronts
pub mod Ahead
pub mod Misses
pub mod Laid
pub mod Only
pub mod Cuts
