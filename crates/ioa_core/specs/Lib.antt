-- what the contracts of this crate and of those above it cite
pub mod Cores
pub mod Hands
pub mod CommitLaws
pub mod Replies
