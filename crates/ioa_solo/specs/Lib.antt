-- what the contracts of this crate and of those above it cite
pub mod Attempts
pub mod Fires
pub mod Hands
pub mod Meets
pub mod Settled
pub mod SettledProps
pub mod Solo
pub mod SomeVisits
pub mod Told
pub mod Visits
pub mod Works
