pub mod Status
pub mod Fetches
pub mod Message
pub mod Expected
pub mod Given
pub mod Answer
