pub mod Told
pub mod Enclaves
pub mod Tasks
pub mod Kernels
pub mod Primaries
pub mod Secondaries
pub mod Sweeps
