-- the lemmas of this crate
pub mod Stepwise
pub mod Performed
pub mod Slots
pub mod Inboxes
pub mod ShapesKept
pub mod Sound
pub mod SameTerms
pub mod CanonicalKept
pub mod Assigned
pub mod Negatives
pub mod DefinedValues
pub mod Statements
pub mod Redone
