pub mod Put
pub mod Selected
pub mod CommandSteps
pub mod Pieces
pub mod Steps
pub mod Ends
