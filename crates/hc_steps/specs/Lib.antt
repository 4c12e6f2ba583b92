pub mod Plan
pub mod Tables
pub mod Crossing
pub mod Views
pub mod Compiled
