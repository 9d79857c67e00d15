-- what the contracts of this crate and of those above it cite
pub mod Lists
pub mod Outcome
pub mod Reading
