pub mod Known
pub mod Tables
pub mod Settling
pub mod Compiled
