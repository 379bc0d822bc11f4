pub mod Block
pub mod Traffic
pub mod Summary
