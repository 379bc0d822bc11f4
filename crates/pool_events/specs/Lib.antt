pub use Rattle.task_pool.specs.Seen
pub mod Moments
pub mod Deeds
pub mod Steps
pub mod Histories
pub mod Manned
pub mod Calls
pub mod Laws
