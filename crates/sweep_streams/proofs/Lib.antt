pub mod Streams
pub mod Once
pub mod Lists
pub mod Round
pub mod Listed
pub mod Pushes
pub mod Records
pub mod Computed
