pub mod Talks
pub mod Promises
pub mod Serving
pub mod OpenLinks
