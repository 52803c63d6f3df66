pub mod Digits
pub mod Literals
pub mod OrderLaws
pub mod Parts
pub mod Powers
pub mod Quotients
pub mod RoundTrip
