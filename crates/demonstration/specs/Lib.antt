pub mod Draws
pub mod Demo
pub mod Laws
pub mod Document
