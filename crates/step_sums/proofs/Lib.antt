pub mod Found
pub mod Totals
pub mod Fits
pub mod Added
