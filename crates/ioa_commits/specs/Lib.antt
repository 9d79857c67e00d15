-- what the contracts of this crate and of those above it cite
pub mod Versions
pub mod Books
pub mod Proposals
pub mod Commits
pub mod Slots
pub mod Refusals
