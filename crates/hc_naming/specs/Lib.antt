pub mod ModuleNames
pub mod NameTable
