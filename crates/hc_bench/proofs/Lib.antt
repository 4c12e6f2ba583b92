pub mod BenchSteps
pub mod Pieces
pub mod Rows
pub mod Plays
pub mod StepsFit
