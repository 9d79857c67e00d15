-- what the contracts of this crate cite
pub mod Choices
pub mod Command
pub mod CommandLine
pub mod FailOn
pub mod Faults
pub mod Inputs
