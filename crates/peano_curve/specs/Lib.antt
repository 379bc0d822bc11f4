pub mod Order
pub mod Run
pub mod Passing
pub mod Laws
pub mod Splits
