pub mod EdgeLaws
pub mod InEdges
pub mod OutEdges
pub mod Arounds
pub mod EdgeChanges
pub mod UnlinkLaws
