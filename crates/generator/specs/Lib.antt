pub use Rattle.fraction.specs.Frac
pub mod Instances
pub mod Lines
