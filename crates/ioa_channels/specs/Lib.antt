-- what the contracts of this crate and of those above it cite
pub mod Fronts
pub mod HandedOut
pub mod Queues
pub mod QueueSteps
pub mod SameItems
pub mod SameQueues
pub mod Heads
