pub mod Sums
pub mod SumLaws
pub mod Means
pub mod Bounds
