mod Sizes
pub mod Paths
pub mod Places
