-- what the contracts of this crate and of those above it cite
pub mod Handed
pub mod Outcomes
pub mod Papers
pub mod Pieces
