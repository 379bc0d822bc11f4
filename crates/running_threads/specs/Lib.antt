pub use Rattle.pool_events.specs.Histories
pub mod Places
pub mod Runs
pub mod Laws
pub mod Hands
