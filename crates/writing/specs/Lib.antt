pub mod Wrote
pub mod Each
pub mod Blocks
pub mod Refusal
