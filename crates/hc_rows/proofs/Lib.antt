pub mod Cuts
pub mod Lent
