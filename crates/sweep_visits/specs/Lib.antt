pub mod Plan
pub mod Visits
pub mod Runs
pub mod Moves
pub mod Ways
pub mod Moments
pub mod Laws
pub mod Checks
