pub mod Fresh
pub mod Handled
pub mod Signature
pub mod KeySignature
