pub mod Digests
pub mod Output
pub mod Prepared
