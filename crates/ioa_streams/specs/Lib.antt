-- what the contracts of this crate and of those above it cite
pub mod Input
pub mod Output
pub mod Parts
pub mod ScheduleParts
