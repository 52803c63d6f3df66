pub mod EachColumn
pub mod OneSuccessor
