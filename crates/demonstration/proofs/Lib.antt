pub mod LaterDraws
pub mod Plans
pub mod Floors
pub mod Kernel
pub mod Throughout
pub mod Covers
pub mod Openings
pub mod Documents
