-- the lemmas of this crate
pub mod Attempted
pub mod Replaying
pub mod Taking
pub mod Tellings
pub mod Visiting
