pub mod Bodies
pub mod Files
pub mod Halts
pub mod Laws
pub mod Limits
pub mod Links
pub mod Looks
pub mod Streams
