pub mod Slots
pub mod Columns
pub mod AtRest
pub mod Tells
pub mod Laws
