-- the definitions that the contracts of this crate and of the crates above it cite
pub mod Checking
pub mod Systems
