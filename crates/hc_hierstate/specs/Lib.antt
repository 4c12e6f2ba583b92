pub mod Paths
pub mod States
pub mod Changes
pub mod Circuits
