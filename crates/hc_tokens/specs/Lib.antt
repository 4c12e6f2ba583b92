pub mod Grammar
pub mod Reading
pub mod Returns
pub mod SignTable
pub mod Tokens
pub mod Words
