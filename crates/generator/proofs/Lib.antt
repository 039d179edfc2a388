pub mod Naturals
pub mod Digits
pub mod Sizes
pub mod Validity
pub mod Texts
