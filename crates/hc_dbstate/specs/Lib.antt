pub mod History
pub mod Insertion
pub mod Places
pub mod Unfolding
pub mod Elaboration
pub mod Uses
