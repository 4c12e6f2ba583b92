pub mod Items
pub mod Jobs
pub mod Form
pub mod Rules
pub mod Reads
