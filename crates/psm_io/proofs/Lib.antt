pub mod Found
pub mod Held
pub mod Known
pub mod NameCounts
