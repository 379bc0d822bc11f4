pub mod Digits
pub mod Curves
pub mod Lists
pub mod NextSums
pub mod Bounds
pub mod Steps
