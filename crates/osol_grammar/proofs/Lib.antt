pub mod LimitTable
pub mod SaidAmounts
pub mod SaidTimes
mod SaidValues
pub mod SaidGaps
pub mod OneState
pub mod OneAnswer
pub mod WrittenLimits
pub mod WrittenText
pub mod BackMarks
pub mod ReadOptions
