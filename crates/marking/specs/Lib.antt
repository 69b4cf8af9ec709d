pub mod Marking
pub mod Unmarked
