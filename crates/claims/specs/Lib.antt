pub mod WellFormed
pub mod Plan
pub mod LooksMade
pub mod Demand3
pub mod Limits
pub mod Visitable
pub mod Demand1
