pub mod Executing
pub mod Sessions
pub mod RowLines
pub mod QueryCodes
pub mod Lowering
pub mod Scripts
pub mod Runs
pub mod ModuleSessions
