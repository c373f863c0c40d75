pub mod Mails
pub mod Views
pub mod Rule
pub mod Passes
pub mod Plan
pub mod Lanes
pub mod Couriers
pub mod Laws
