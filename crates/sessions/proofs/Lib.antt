pub mod OneSeat
pub mod SoundJournals
