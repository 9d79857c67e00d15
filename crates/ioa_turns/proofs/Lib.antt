-- lemmas of turns
mod Fired
mod LastFired
mod Numbered
mod Ready
pub mod SeenInboxes
