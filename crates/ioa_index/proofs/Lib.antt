-- the lemmas of this crate
pub mod Indexes
pub mod Slots
