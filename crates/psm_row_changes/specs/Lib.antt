pub mod KeyTests
pub mod Rows
