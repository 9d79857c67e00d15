-- the lemmas of this crate
pub mod Beginnings
pub mod Channels
pub mod Fields
pub mod Going
pub mod Jsons
pub mod Judgements
pub mod Listing
pub mod Passed
pub mod Passing
pub mod Plain
pub mod Puts
pub mod Shapings
pub mod SomeChosen
pub mod Tags
pub mod Waiting
