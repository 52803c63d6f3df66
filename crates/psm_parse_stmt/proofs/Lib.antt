pub mod Shorter
pub mod Bodies
pub mod Declaring
pub mod StatementExact
pub mod Fronts
