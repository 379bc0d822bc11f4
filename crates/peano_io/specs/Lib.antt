-- What the contracts of this crate cite.
pub mod Causes
pub mod Reading
pub mod Writing
pub mod Memory
pub mod Cut
pub mod Standard
