pub mod Comparison
pub mod HasStep
pub mod MarkLaws
pub mod MarkWays
pub mod PaperBlocks
pub mod ExaminedLines
pub mod ExaminedEdges
pub mod LinesInPaper
