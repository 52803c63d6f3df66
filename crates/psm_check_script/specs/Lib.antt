pub mod Known
pub mod ScriptFaults
pub mod Commands
pub mod Seen
pub mod Checked
pub mod There
