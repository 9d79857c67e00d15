-- the lemmas of this crate
pub mod Reasons
