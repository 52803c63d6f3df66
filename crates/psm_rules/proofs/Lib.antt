pub mod Bounds
pub mod Earliest
pub mod Innermost
