pub mod Cuts
pub mod Words
pub mod Labels
pub mod Writing
