pub mod Texts
pub mod Parts
pub mod Assembly
pub mod Single
pub mod Existing
