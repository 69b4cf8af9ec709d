pub mod RunLaws
pub mod CallLaws
