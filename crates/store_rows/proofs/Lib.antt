pub mod Benches
pub mod PartsRows
pub mod Rooms
