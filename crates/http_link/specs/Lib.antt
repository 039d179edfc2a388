pub mod Lines
pub mod Checks
pub mod Pieces
pub mod Requests
pub mod Responses
pub mod Replies
pub mod Outgoing
