pub mod Choices
pub mod Counts
pub mod Lengths
pub mod Masks
pub mod Signs
