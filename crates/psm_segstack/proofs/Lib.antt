pub mod Filled
pub mod Stacks
