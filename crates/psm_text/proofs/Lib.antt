pub mod Orders
pub mod Positions
pub mod Retries
pub mod Spellings
pub mod Steps
pub mod Trims
pub mod Values
