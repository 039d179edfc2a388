pub mod Sizes
pub mod NumberChanges
pub mod Fitting
pub mod Wholes
pub mod Accumulators
