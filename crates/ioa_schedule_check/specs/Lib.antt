-- what the contracts of this crate and of those above it cite
pub use Rattle.ioa_schedule_check.specs.Schedules.{schedule_answer}
pub use Rattle.ioa_schedule_check.specs.Taken.{refused_left, refused_of, steps_left, taken_of}
pub mod Schedules
pub mod Taken
