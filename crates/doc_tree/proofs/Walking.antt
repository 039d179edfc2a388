-- Bytes that are taken together are taken one by one.
pub mod Pieces
pub mod Steps
pub mod Taking
