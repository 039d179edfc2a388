pub mod Rounds
pub mod Shifts
pub mod Gates
