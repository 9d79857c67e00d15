-- the lemmas of this crate
pub mod Inboxes
pub mod Numbers
