pub mod BodyOf
pub mod Children
pub mod Running
pub mod Opened
pub mod TopCall
pub mod Moved
