-- what the contracts of this crate and of those above it cite
pub mod Faults
pub mod Fired
pub mod Inboxes
pub mod LastFired
pub mod NodeTurns
pub mod NumberedProps
pub mod Ready
pub mod ResolvedProps
pub mod Sights
