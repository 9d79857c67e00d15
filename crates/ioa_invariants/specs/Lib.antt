-- what the contracts of this crate and of those above it cite
pub mod ReadNames
pub mod ReadShapes
pub mod Checked
pub mod Sections
pub mod Meant
