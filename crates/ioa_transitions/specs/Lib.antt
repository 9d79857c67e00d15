-- what the contracts of this crate and of those above it cite
pub mod Entries
pub mod Choosing
pub mod NodeState
pub mod NodeStep
pub mod NodeAnswers
pub mod SameEntries
pub mod SameNodes
