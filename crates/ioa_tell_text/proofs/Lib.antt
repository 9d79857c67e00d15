-- the lemmas of this crate
pub mod Firsts
pub mod Places
pub mod Written
