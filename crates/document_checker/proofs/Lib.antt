pub mod Pairs
pub mod Acceptance
pub mod Exclusion
pub mod OneText
pub mod OneAnswer
