pub mod Clauses
pub mod Creating
pub mod Whole
pub mod Only
