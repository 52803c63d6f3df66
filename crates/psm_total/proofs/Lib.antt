pub mod Fronts
pub mod Files
pub mod Trees
