pub mod Grammar
pub mod LineReading
