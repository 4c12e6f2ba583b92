pub mod DigestLines
pub mod Naming
pub mod Outputs
pub mod Runs
pub mod Sends
pub mod FlatTexts
pub mod VerilogTexts
