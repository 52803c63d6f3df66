pub mod Fetched
pub mod Reading
pub mod Outcomes
pub mod Answering
pub mod Completeness
pub mod Existence
pub mod Generating
