-- what the contracts of this crate and of those above it cite
pub mod Faults
pub mod Sentences
pub mod Whereabouts
pub mod Pages
pub mod FurtherFaults
pub mod Verdicts
pub mod Explanations
