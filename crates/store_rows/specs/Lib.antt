pub mod Alone
pub mod Bench
pub mod Parts
