-- what the contracts of this crate and of those above it cite
pub mod NameTables
pub mod OuterNames
pub mod Views
pub mod Indexes
pub mod StateNames
