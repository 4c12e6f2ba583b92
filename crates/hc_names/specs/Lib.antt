pub mod Mangling
pub mod NameRows
pub mod Numbers
pub mod Naming
pub mod Steps
