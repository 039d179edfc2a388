pub mod Tests
pub mod Forms
pub mod Firsts
pub mod Fields
pub mod Readers
pub mod Characters
pub mod EndKinds
pub mod KeptTexts
