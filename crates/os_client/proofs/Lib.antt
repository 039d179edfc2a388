pub mod Readings
pub mod CallSteps
pub mod Digits
pub mod Runs
pub mod ServerAnswers
