pub mod Digits
pub mod SumLaws
pub mod Bounds
