-- the lemmas of this crate, and those that the crates above cite
pub mod Ascending
pub mod Ascents
pub mod Complete
pub mod NamedConstants
pub mod Parts
pub mod ShapesOf
pub mod Shorter
pub mod Sound
