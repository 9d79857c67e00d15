-- the lemmas of this crate, which the crates above cite
pub mod Erased
pub mod Heights
pub mod Sets
pub mod SameTexts
