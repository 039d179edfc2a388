pub mod Walks
pub mod OneResult
