pub mod Seen
pub mod Statements
pub mod Blocks
pub mod SymbolTables
pub mod Files
pub mod OwnNumbers
