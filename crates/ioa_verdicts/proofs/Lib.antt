-- the lemmas of this crate
pub mod Chosen
pub mod Found
pub mod Meant
pub mod Open
pub mod Placed
pub mod Settled
pub mod Slots
pub mod Touched
pub mod Watched
