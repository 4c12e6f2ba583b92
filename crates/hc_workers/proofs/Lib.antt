pub mod Heights
pub mod Joining
pub mod Knowing
pub mod Ordering
pub mod Passing
pub mod Rows
pub mod Whole
pub mod Writing
