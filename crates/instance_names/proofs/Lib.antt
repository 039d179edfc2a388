pub mod NameCharacters
pub mod Walks
pub mod FoundNames
