pub mod Marked
pub mod Reading
