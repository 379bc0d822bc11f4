pub mod Copies
pub mod Changes
pub mod Laws
