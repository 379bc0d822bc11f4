pub mod Lists
mod Keys
pub mod Events
mod Sound
mod Covered
pub mod Forward
mod Found
mod Trees
pub mod Desks
mod Begun
mod Toured
mod Borders
