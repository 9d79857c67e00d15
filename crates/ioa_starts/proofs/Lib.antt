-- the lemmas of this crate
pub mod Halves
pub mod Starts
