pub mod FormLaw
pub mod Law
pub mod Numbers
pub mod Steps
pub mod OneJob
pub mod Decided
pub mod Taken
