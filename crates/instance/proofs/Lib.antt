pub mod Numbers
pub mod Terms
pub mod Partition
pub mod RowSums
pub mod GoalSums
pub mod Search
mod ZeroOrBetween
