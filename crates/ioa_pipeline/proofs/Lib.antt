-- the lemmas of this crate
pub mod ExplainedSchedules
pub mod Judged
pub mod JudgedSchedules
pub mod Refusals
pub mod Replays
pub mod Reported
pub mod Shown
pub mod Tellings
