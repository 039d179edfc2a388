-- What a whole text says, and the tree that is told of it.
pub mod Tellings
pub mod MarkEvents
pub mod Depths
pub mod Wholes
pub mod LineFeeds
pub mod Results
pub mod Verdicts
pub mod Hearing
pub mod Trees
