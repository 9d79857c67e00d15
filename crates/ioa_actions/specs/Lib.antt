-- what the contracts of this crate and of those above it cite
pub mod Actions
pub mod ActionParts
pub mod ActionText
pub mod ComponentOrder
pub mod ComponentText
pub mod StepFaults
pub mod ValueLists
pub mod ValuesOrder
