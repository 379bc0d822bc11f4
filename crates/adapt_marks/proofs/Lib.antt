pub mod Shown
pub mod Decided
pub mod Exist
