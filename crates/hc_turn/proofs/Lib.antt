pub mod Prefixes
pub mod Places
pub mod Changes
pub mod Steps
