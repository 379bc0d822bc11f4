pub mod Powers
pub mod Keys
pub mod Bits
pub mod Positions
pub mod Faces
pub mod Anchors
