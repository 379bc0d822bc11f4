pub mod Own
pub mod Uniform
pub mod Lone
pub mod Raises
pub mod Raising
pub mod Adapts
pub mod Adapting
