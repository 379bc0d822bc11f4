pub mod Above
pub mod Views
pub mod Sides
pub mod Laws
