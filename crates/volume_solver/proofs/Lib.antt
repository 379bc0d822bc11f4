pub mod Bounds
pub mod Criteria
pub mod Choices
