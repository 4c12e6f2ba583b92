pub mod Steps
pub mod Answers
pub mod Listing
pub mod Sent
pub mod Queued
pub mod Simulation
pub mod Trace
pub mod Playing
