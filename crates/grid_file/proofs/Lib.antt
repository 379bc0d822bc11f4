pub mod Trees
pub mod Lists
pub mod Searches
pub mod Steps
pub mod Ranges
pub mod FileRange
