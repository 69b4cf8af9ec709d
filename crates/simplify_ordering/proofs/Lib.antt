pub mod ImplodeLaws
pub mod ImplodesLaws
pub mod LookLaws
pub mod VisitLaws
pub mod WalkLaws
pub mod FetchLaws
