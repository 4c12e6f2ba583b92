pub mod CallWords
pub mod Grammar
pub mod SigReading
