pub mod Finished
pub mod Concluded
