pub mod Lists
pub mod Over
pub mod Told
pub mod Raised
mod Corners
