-- the lemmas of this crate
pub mod Moves
pub mod Standing
