-- what the contracts of this crate and of those above it cite
pub mod Spelling
pub mod Pieces
pub mod Listing
pub mod Touching
pub mod Printed
