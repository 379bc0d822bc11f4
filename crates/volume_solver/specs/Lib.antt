pub mod Ranges
pub mod Kernel
pub mod Seen
pub mod Counts
pub mod Any
