pub mod EdgeLines
pub mod LinesOf
