-- the lemmas of this crate and what its walks are made of
pub mod Listed
pub mod Steps
pub mod Walk
