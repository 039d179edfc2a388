pub mod OneState
pub mod OneAnswer
pub mod BackText
pub mod BackMarks
