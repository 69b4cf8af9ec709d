pub mod EdgeLine
