-- the lemmas of this crate
pub mod Steps
pub mod Meant
pub mod Taken
pub mod Refused
