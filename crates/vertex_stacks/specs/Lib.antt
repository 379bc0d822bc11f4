pub mod Notes
pub mod Tales
pub mod Lists
pub mod Piles
