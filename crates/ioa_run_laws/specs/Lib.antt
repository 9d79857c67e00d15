-- what the contracts of this crate cite
pub mod Parts
pub mod Shaped
pub mod SimpleValues
pub mod WellSorted
pub mod Awaited
pub mod BlockStates
pub mod Inboxes
pub mod Invariants
pub mod UnderWay
pub mod Attempts
