pub mod Fetched
pub mod KeyMet
pub mod Meeting
pub mod Opens
pub mod Pasts
pub mod Standing
pub mod UniqueMet
pub mod Walks
