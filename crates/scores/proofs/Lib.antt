pub mod Digits
pub mod Cuts
pub mod Leads
pub mod Tops
pub mod Parts
pub mod Scored
