pub mod Arithmetic
pub mod Literal
pub mod Num
pub mod Order
pub mod Printed
pub mod Split
