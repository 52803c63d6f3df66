pub mod Current
pub mod Fetching
pub mod Opened
pub mod Positions
pub mod States
pub mod TypeChecks
pub mod Walking
