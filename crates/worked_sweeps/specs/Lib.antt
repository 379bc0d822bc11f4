pub mod Trees
pub mod Told
pub mod Corners
