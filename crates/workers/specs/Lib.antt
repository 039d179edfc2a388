pub mod Shifts
pub mod Gates
pub mod Bells
