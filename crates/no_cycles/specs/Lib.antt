pub use Rattle.evidence.specs.Instance
pub use Rattle.simplex_rules.specs.Runs
pub use Rattle.search_rules.specs.Search
pub mod Phase
pub mod Beginning
pub mod Searches
pub mod Limit
pub mod Ends
