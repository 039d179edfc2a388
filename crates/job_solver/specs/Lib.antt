pub mod Runs
pub mod ProvedDocuments
pub mod Sieves
pub mod StoredDocuments
pub mod Openings
pub mod Compactions
pub mod StoredEffects
