-- the lemmas of this crate
pub mod Tables
pub mod Names
pub mod Named
pub mod Slots
pub mod Words
pub mod Scopes
pub mod StateNames
