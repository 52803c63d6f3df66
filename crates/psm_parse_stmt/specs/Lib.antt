pub mod Levels
pub mod Declaring
