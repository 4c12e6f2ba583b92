pub mod VertexId
pub mod DepthFirst
pub mod Walking
