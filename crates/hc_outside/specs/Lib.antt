pub mod Causes
pub mod Moves
pub mod Memory
pub mod Standard
pub mod Stops
