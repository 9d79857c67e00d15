-- what the contracts of this crate and of those above it cite
pub mod Automata
pub mod Channels
pub mod Composition
pub mod Executions
pub mod IsStart
pub mod JointStep
pub mod Participants
pub mod Readings
pub mod SameConfs
pub mod Scripts
pub mod Start
pub mod Steps
