-- what the contracts of this crate and of the crates above it cite
pub mod Places
pub mod Leaves
