pub mod Elements
pub mod Characters
pub mod Tags
pub mod Content
pub mod Declaration
pub mod Document
pub mod WrittenText
