pub use Rattle.cert_checker.specs.Refusals
pub mod Documents
pub mod Grounds
pub mod Texts
