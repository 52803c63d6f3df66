pub mod Like
pub mod Name
pub mod Order
pub mod Parts
pub mod Storing
pub mod Text
