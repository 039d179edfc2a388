pub use Rattle.rational.specs.Ratio
pub mod Leading
pub mod Scores
pub mod Sizes
