pub mod Updates
pub mod Plan
pub mod Machine
pub mod Settling
pub mod Edges
pub mod Starting
