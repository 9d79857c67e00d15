-- the lemmas of this crate
pub mod DeclaredParts
pub mod SoundInvariants
pub mod DeclaredInvariants
pub mod SoundSystems
pub mod FromDeclarations
pub mod CompleteInvariants
pub mod Complete
pub mod Declared
pub mod Promises
