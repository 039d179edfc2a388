pub mod Hands
pub mod Finishes
pub mod Order
pub mod NumberCounts
pub mod Histories
pub mod Endings
pub mod StoredHistories
