pub mod Answers
pub mod LinkCalls
pub mod Outputs
pub mod Telling
pub mod Runs
pub mod Laws
