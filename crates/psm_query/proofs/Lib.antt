pub mod Added
pub mod EndLaws
pub mod Finished
pub mod WalkLaws
pub mod Means
pub mod Tallied
pub mod Beginnings
pub mod FirstLaws
