-- What each step of the machine owes.
mod Outcomes
mod Loops
mod TagNames
mod FieldValues
mod Moves
mod Steps
mod TagSteps
mod FieldSteps
mod AsideSteps
mod WholeParts
pub use Outcomes.*
pub use Loops.*
pub use TagNames.*
pub use FieldValues.*
pub use Moves.*
pub use Steps.*
pub use TagSteps.*
pub use FieldSteps.*
pub use AsideSteps.*
pub use WholeParts.*
