pub mod Calls
pub mod Visitors
