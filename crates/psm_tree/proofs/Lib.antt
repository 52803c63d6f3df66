pub mod ExprFits
pub mod StatementFits
pub mod FileFits
pub mod Readable
pub mod Places
pub mod Reading
pub mod Firsts
pub mod Repeating
