pub mod Answering
pub mod NameKinds
pub mod Ends
