pub mod Equations
pub mod Joined
pub mod Scales
pub mod Wholes
pub mod ScaledForms
pub mod Scaled
pub mod Joining
