pub mod Addresses
pub mod Laws
pub mod Looks
pub mod MemFiles
pub mod MemLinks
pub mod Memory
