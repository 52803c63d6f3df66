pub mod Counted
pub mod Ends
pub mod Gathered
pub mod Tallies
