pub mod Templates
pub mod Results
pub mod Tables
pub mod ModuleText
