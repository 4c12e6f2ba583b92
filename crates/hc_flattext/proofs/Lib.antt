pub mod Agreeing
pub mod Standing
pub mod FlatGraphs
pub mod FlatTexts
pub mod CarriedPaths
pub mod CarriedReach
pub mod CarriedGraph
