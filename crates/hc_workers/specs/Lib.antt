pub mod Finished
pub mod Levels
pub mod Owning
pub mod Working
