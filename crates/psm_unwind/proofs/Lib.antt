pub mod Places
pub mod Lasts
pub mod Nestings
pub mod Views
pub mod Depths
pub mod Leavings
pub mod Unwinding
pub mod Arriving
