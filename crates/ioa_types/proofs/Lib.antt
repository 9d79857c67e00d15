-- the lemmas of this crate
pub mod Heights
pub mod Meant
pub mod TypeDeclarations
pub mod NamedShapes
