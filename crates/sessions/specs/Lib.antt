pub mod Sessions
pub mod StoredSessions
pub mod SoundJournals
