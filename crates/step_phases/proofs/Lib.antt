pub mod Grids
pub mod Homes
pub mod Exchanges
pub mod Sweeps
pub mod Moments
pub mod Rests
pub mod Lists
pub mod Chains
