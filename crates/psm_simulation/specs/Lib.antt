pub mod Env
pub mod Expressions
pub mod Changes
pub mod Cursors
pub mod Scheme
pub mod Agreement
pub mod Simulation
pub mod Running
