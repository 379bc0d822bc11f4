pub mod Trees
pub mod Partials
pub mod Totals
pub mod Bounds
pub mod Walks
pub mod Changes
pub mod Steps
