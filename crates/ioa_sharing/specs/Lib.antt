-- what the contracts of this crate cite
pub mod Kept
pub mod Shared
pub mod Named
