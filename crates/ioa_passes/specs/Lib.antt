-- what the contracts of this crate and of those above it cite
pub mod Passes
pub mod Looks
pub mod Texts
pub mod PassLaws
