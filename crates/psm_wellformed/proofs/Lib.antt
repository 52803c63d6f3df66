pub mod WellTyped
pub mod Typing
pub mod Outside
pub mod Standing
pub mod Statements
pub mod Definitions
