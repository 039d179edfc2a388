pub mod Names
pub mod NamedTexts
mod Cuts
mod ItemLists
