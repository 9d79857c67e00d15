-- the definitions that the contracts of this crate and of the crates above it cite
pub mod PlainText
pub mod TextCode
pub mod SameTexts
pub mod Sides
pub mod TextView
pub mod Erasure
pub mod Heights
