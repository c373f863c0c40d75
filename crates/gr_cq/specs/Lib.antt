pub mod Waiting
pub mod Entries
pub mod Ends
pub mod Coming
pub mod Foresight
pub mod View
pub mod Laws
pub mod Concern
