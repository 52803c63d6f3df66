pub mod Words
pub mod Message
pub mod Contract
