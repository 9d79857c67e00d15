-- the lemmas of this crate
pub mod Parts
pub mod SameActions
pub mod SameComponents
