-- what the contracts of this crate and of those above it cite
pub mod Findings
pub mod Judged
pub mod Reports
pub mod Traces
