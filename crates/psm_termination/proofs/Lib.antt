pub mod Falling
pub mod Fewer
pub mod Jumps
pub mod Rows
pub mod Shapes
