pub mod FlatRows
pub mod Wakes
pub mod Widths
pub mod Boards
pub mod Sites
pub mod Taken
pub mod Arms
pub mod Runs
