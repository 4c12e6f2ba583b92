pub mod Same
pub mod Numbering
pub mod FormView
pub mod Layout
pub mod Numbers
pub mod Hashing
