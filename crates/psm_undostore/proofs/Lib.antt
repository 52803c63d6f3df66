pub mod Calls
pub mod Held
pub mod Led
pub mod Noted
pub mod Settled
pub mod Undoable
pub mod UndoneLaws
pub mod Undoings
