-- what the contracts of this crate and of those above it cite
pub mod Changes
pub mod Kept
pub mod Lines
pub mod Refusals
pub mod Stops
pub mod Teller
pub mod Terms
pub mod Tests
pub mod Verdicts
