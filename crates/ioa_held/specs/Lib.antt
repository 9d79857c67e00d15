-- what the contracts of this crate and of those above it cite
pub mod Attempts
pub mod Finish
pub mod Openings
pub mod Texts
pub mod AttemptLaws
