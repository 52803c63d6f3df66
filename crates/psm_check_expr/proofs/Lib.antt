pub mod Equations
pub mod Items
pub mod Optional
