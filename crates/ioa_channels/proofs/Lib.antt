-- the lemmas of this crate
pub mod Items
pub mod HandedOut
pub mod Names
pub mod Parts
pub mod QueueSteps
pub mod Receives
pub mod SameQueues
