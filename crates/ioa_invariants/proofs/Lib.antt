-- the lemmas of this crate
pub mod NamesRead
pub mod Declared
pub mod Sound
pub mod Complete
