-- what the contracts of this crate and of those above it cite
pub mod Turns
pub mod TurnsByStep
pub mod Positions
pub mod Views
pub mod States
pub mod Controls
pub mod Rounds
pub mod StatementSets
pub mod StateSets
pub mod Steppings
