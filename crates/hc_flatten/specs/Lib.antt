pub mod Sizes
pub mod Flattened
