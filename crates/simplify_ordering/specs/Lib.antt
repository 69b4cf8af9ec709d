pub mod Held
pub mod Looks
pub mod Run
pub mod Walks
