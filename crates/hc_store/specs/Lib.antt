pub mod Marks
pub mod Given
pub mod Stored
pub mod Scene
