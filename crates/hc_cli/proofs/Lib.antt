pub mod Pieces
pub mod Parts
pub mod Kept
pub mod DueLaws
pub mod SomeDue
pub mod Ends
pub mod Asked
pub mod Orders
