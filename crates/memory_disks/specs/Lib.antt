pub mod Memory
pub mod MemStores
pub mod Past
