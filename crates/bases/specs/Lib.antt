pub use Rattle.rational.specs.Ratio
pub use Rattle.rational.specs.Width
pub use Rattle.evidence.specs.Sums
pub use Rattle.evidence.specs.Width as Fits
pub mod Dictionary
pub mod Forms
pub mod Program
pub mod Order
pub mod Pivot
