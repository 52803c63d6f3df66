pub mod Journal
pub mod Packed
pub mod Touched
pub mod Undo
pub mod Undone
