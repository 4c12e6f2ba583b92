pub mod HierarchyText
pub mod Pieces
pub mod VerilogText
pub mod Writable
