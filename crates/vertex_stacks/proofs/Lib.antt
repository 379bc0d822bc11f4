pub mod Counts
pub mod Flat
pub mod Places
pub mod Sound
