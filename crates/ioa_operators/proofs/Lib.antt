-- the lemmas of this crate
pub mod Holding
pub mod ItemLists
pub mod SameLists
pub mod ShapeLists
pub mod Canonicals
pub mod Falls
pub mod WideShapes
pub mod Memory
pub mod Decisions
