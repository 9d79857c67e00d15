-- the definitions that the contracts of this crate and of the crates above it cite
pub mod Parts
pub mod InView
pub mod Declarations
pub mod ResolvedPrograms
pub mod Invariants
pub mod Systems
pub mod SameParts
pub mod Numbered
