pub mod FaultLine
pub mod Sent
pub mod Histories
pub mod Due
pub mod Clauses
pub mod Prepared
pub mod Read
