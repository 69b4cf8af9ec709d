pub mod Over
pub mod Digits
pub mod Tally
pub mod Texts
