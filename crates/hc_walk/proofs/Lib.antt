pub mod Members
pub mod InRange
pub mod Waits
pub mod Walks
pub mod Walking
pub mod Along
