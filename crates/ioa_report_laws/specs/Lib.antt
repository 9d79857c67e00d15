-- what the contracts of this crate cite
pub mod Signatures
pub mod Taken
pub mod Reported
pub mod Told
