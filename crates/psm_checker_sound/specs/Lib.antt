pub mod Stands
pub mod Agreement
pub mod Meant
pub mod Simples
pub mod StatementsStand
pub mod ScriptsStand
pub mod Places
pub mod Numbered
