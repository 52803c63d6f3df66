pub mod Allowed
pub mod ActResults
pub mod Successors
pub mod Innermost
pub mod Inserting
pub mod Over
pub mod Running
pub mod Stepping
