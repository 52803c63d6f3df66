pub mod Creating
pub mod Whole
pub mod Once
