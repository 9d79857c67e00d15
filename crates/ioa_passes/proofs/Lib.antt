-- the lemmas of this crate
pub mod Passes
pub mod PassLaws
