pub mod Runs
pub mod Solves
pub mod Laws
