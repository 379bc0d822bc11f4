pub mod Steps
pub mod Turns
pub mod Rounds
pub mod Inside
pub mod Alike
pub mod Orders
pub mod Beside
