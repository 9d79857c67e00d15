-- what the contracts of this crate and of those above it cite
pub mod Lines
pub mod Found
pub mod Pictures
