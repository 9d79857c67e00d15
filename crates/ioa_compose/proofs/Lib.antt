-- the lemmas of this crate
pub mod Components
pub mod Compositions
pub mod Deliveries
pub mod JointSteps
pub mod Picks
pub mod Positions
pub mod Projections
pub mod Replays
pub mod SameConfs
pub mod Signatures
pub mod Starts
