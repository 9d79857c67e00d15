-- the lemmas of this crate
pub mod QueueTexts
