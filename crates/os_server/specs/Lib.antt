pub mod Orders
pub mod Answers
pub mod Talk
pub mod Conversations
pub mod Serving
pub mod OneReading
pub mod Laws
