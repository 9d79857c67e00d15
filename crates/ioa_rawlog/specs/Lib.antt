-- what the contracts of this crate cite
pub mod Blocks
pub mod Lending
pub mod Links
pub mod Ownership
pub mod Places
