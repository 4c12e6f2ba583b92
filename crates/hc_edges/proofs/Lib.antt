pub mod LentRows
pub mod Instances
pub mod Woken
pub mod Edged
pub mod Initial
pub mod Kept
