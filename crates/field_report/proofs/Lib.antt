pub mod Lows
pub mod Pieces
