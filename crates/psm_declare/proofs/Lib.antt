pub mod Bounds
pub mod Outside
