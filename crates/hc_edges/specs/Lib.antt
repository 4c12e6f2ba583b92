pub mod Clocked
pub mod Edges
pub mod Showing
