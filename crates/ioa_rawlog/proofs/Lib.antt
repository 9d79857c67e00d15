-- lemmas of the proofs by hand, lowest first, and of the safe code
pub mod Chained
pub mod Owned
pub mod Written
pub mod Seen
pub mod Shared
pub mod Crosses
pub mod Walks
pub mod Entries
pub mod Linking
pub mod Laying
