pub mod Totals
pub mod Bounds
pub mod Adding
pub mod Records
