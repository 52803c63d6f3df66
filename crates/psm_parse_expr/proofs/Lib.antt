pub mod Built
pub mod EnclosedFirst
pub mod RunAnswered
