-- the lemmas of this crate
pub mod Listed
pub mod Papers
pub mod Pieces
pub mod Sent
