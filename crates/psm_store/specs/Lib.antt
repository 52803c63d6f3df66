pub mod Groups
pub mod Kept
pub mod Marks
pub mod RowCalls
