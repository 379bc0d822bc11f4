pub mod Copies
pub mod Visited
pub mod Given
pub mod Runs
pub mod Swept
pub mod Stores
pub mod Views
pub mod Nested
