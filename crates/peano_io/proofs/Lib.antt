-- Lemmas of this crate.
pub mod Known
