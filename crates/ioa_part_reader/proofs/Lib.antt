-- the lemmas of this crate
pub mod Depths
pub mod Shorter
pub mod Closing
pub mod SoundSorts
pub mod SoundDeclared
pub mod SoundParts
pub mod SoundStatements
pub mod SoundDeclarations
pub mod CompleteSorts
pub mod CompleteSignatures
pub mod CompleteStatements
pub mod CompleteDeclarations
