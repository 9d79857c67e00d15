-- the lemmas of this crate
pub mod Fields
pub mod Rules
