-- what the contracts of this crate and of those above it cite
pub mod Attempts
pub mod Events
pub mod Faults
pub mod Marks
pub mod Nodes
pub mod Refusals
pub mod Schedules
pub mod Steps
pub mod Told
pub mod Visits
