pub mod boxed
pub mod list
pub mod one_or_more
