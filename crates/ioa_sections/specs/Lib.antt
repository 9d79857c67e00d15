-- the definitions that the contracts of this crate and of the crates above it cite
pub mod Sections
pub mod Distinct
pub mod Faults
pub mod Declarations
pub mod Nodes
pub mod Grounds
pub mod Channels
pub mod Scripts
pub mod Placing
pub mod PlacedView
pub mod DeclaredParts
pub mod Meant
