pub mod FileNames
pub mod Outputs
