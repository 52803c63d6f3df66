pub mod Reported
pub mod FaultTexts
pub mod Source
