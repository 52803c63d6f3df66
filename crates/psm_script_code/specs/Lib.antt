pub mod FileKnown
pub mod Made
pub mod Lowered
pub mod WellFormed
