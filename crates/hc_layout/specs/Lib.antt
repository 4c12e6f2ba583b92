pub mod Layout
pub mod Up
