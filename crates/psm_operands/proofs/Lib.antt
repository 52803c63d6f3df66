pub mod Framing
pub mod Levels
