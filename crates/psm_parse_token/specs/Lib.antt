pub mod Among
pub mod Fault
pub mod Ended
