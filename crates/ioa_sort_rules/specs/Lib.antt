-- what the contracts of this crate and of those above it cite
pub mod Kinds
pub mod Rows
pub mod SameSorts
pub mod DeclaredTypes
