-- what the contracts of this crate cite
pub mod FaultNumbers
