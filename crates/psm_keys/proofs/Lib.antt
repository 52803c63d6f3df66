pub mod Added
pub mod Apart
pub mod Distinct
pub mod KeySignature
pub mod Turned
pub mod Values
