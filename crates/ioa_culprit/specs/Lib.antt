-- what the contracts of this crate and of the crates above it cite
pub mod SortTexts
pub mod Cuts
