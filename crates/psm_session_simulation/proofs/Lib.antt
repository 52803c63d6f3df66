pub mod Lines
pub mod Keeping
pub mod Entering
pub mod Calling
pub mod Asking
pub mod Commands
pub mod Sequences
pub mod Scripts
