pub mod Digest
pub mod Generator
pub mod Template
pub mod Workload
pub mod Fills
