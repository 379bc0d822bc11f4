pub mod Worlds
pub mod Parts
pub mod Failing
pub mod Counts
pub mod Notes
pub mod AtMost
