pub mod Rows
pub mod Values
pub mod Steps
pub mod Updates
pub mod Edges
