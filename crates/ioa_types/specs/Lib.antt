-- what the contracts of this crate and of those above it cite
pub mod TypeTables
pub mod TextTypes
pub mod Heights
pub mod Meanings
pub mod TypeDeclarations
