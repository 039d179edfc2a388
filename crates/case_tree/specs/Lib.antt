pub use Rattle.evidence.specs.Instance
pub use Rattle.evidence.specs.Cases
pub use Rattle.instance.specs.Program
pub mod Cuts
