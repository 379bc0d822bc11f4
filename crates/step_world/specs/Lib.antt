pub mod Steps
pub mod Worlds
pub mod Failing
pub mod Counts
pub mod Notes
