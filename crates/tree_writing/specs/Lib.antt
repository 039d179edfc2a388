pub mod Escapes
pub mod TextParts
pub mod Awaiting
pub mod WritableElements
