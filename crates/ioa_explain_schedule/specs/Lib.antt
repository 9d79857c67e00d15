-- what the contracts of this crate and of those above it cite
pub mod Faults
pub mod Pages
pub mod Explanations
pub mod Reasons
