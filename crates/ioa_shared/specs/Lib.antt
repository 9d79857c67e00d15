-- what the contracts of this crate and of those above it cite
pub mod SomeBook
