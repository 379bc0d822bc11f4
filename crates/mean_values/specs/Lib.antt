pub mod Curves
pub mod Lists
pub mod NextSums
pub mod Steps
