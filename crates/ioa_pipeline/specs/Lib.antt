-- what the contracts of this crate and of those above it cite
pub mod Described
pub mod Explaining
pub mod Judging
pub mod WholeRun
pub mod Printing
pub mod Replaying
pub mod Tracing
pub mod ScheduleChecks
