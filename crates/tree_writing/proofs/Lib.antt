mod CleanTexts
pub mod Documents
pub mod Texts
mod WrittenParts
