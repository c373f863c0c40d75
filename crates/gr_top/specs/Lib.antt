pub mod Arguments
pub mod Causes
pub mod CauseTexts
pub mod Outcomes
pub mod ReportTexts
pub mod Wants
pub mod Words
