pub mod Bits
pub mod Lists
mod CrossingPlans
pub mod Pushed
