-- what the contracts of this crate and of those above it cite
pub mod Endings
pub mod NodeFaults
pub mod Options
pub mod Recorded
