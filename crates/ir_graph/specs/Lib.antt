pub mod Turns
pub mod Hits
pub mod Edges
pub mod Built
pub mod NodeKey
pub mod UpdateCaches
