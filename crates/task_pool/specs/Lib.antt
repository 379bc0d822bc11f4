pub mod Deque
pub mod Fits
pub mod Shifts
pub mod Seen
pub mod Built
pub mod Laws
