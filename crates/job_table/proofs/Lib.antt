pub mod JobLists
pub mod HeldPlaces
pub mod WaitingJobs
pub mod Changes
pub mod Histories
pub mod MoveEffects
pub mod RemadeEffects
pub mod SettledTables
