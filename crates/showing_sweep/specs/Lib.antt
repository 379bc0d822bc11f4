pub mod Counts
pub mod Sent
pub mod Shows
pub mod Shown
pub mod Sweeps
pub mod Laws
