pub mod Streams
pub mod Records
pub mod Counts
pub mod Checks
