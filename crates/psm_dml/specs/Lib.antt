pub mod Changes
pub mod Collected
pub mod Ends
pub mod Judged
pub mod TypeChecks
