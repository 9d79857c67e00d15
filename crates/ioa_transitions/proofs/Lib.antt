-- the lemmas of this crate
pub mod Arguments
pub mod Guards
pub mod NodeSignatures
pub mod NodeSteps
pub mod NodeVariables
mod SameEntries
pub mod SameNodes
