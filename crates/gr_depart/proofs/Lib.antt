pub mod Amid
pub mod Acts
pub mod Doable
pub mod Turns
pub mod WhileRead
