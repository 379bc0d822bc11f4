pub mod Cuts
pub mod Foreign
pub mod Round
pub mod Keys
pub mod Leaves
pub mod Tiles
pub mod Enclave
pub mod Laws
