-- the lemmas of this crate
pub mod ConstsFound
pub mod FalseParts
pub mod FaultParts
pub mod FaultyTerms
pub mod FieldShapes
pub mod Firsts
pub mod Stopped
pub mod UnfitFound
pub mod Viewed
