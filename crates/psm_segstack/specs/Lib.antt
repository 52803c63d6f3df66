pub mod Segments
pub mod Stack
