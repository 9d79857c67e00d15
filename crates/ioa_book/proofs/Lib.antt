-- the lemmas of this crate
pub mod PickedParts
pub mod OwnReads
pub mod FoundReads
pub mod FoundNodes
pub mod BookLaws
pub mod FreshLooks
pub mod StandsExactly
