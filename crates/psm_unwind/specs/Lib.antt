pub mod View
pub mod Marks
pub mod Leaving
pub mod Raising
pub mod Actions
