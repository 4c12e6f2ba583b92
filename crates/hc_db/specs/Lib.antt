pub mod Database
pub mod Inserting
pub mod OwnTurns
