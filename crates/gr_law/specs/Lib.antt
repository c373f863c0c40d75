pub mod Broken
pub mod Grids
pub mod Integrity
pub mod Laws
pub mod Next
pub mod Queries
pub mod QueryMaps
pub mod Small
