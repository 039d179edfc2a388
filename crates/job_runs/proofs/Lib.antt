pub mod Judgements
pub mod Runs
pub mod Histories
