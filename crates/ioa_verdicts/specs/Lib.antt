-- what the contracts of this crate and of those above it cite
pub mod Meant
pub mod Open
pub mod Places
pub mod Readers
pub mod Verdicts
