-- what the contracts of this crate and of those above it cite
pub mod Looks
pub mod Proposals
pub mod BookLaws
pub mod Slots
pub mod LookFaults
