pub mod CauseTexts
pub mod Elements
pub mod Escapes
pub mod Outcomes
pub mod Statuses
pub mod Styles
