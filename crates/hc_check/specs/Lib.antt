pub mod CheckStop
pub mod Undriven
