pub mod Connected
pub mod Steps
pub mod Standing
pub mod Fits
pub mod Shown
pub mod Settled
