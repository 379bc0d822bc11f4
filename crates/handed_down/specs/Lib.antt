pub mod Ages
pub mod Across
pub mod Stored
pub mod Laws
