pub mod Outcomes
pub mod RowValue
pub mod RowType
pub mod Blocks
pub mod Written
pub mod Exits
pub mod Open
pub mod Choices
