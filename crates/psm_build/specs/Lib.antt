pub mod Program
pub mod ModuleCode
pub mod Once
pub mod Building
pub mod Outcome
