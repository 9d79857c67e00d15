-- the lemmas of this crate
pub mod Lookups
pub mod ListedParts
pub mod ArgumentLists
pub mod Chains
pub mod Types
pub mod Sound
pub mod Complete
pub mod Told
pub mod ChoiceRules
pub mod SoundStatements
pub mod CompleteStatements
pub mod ToldStatements
pub mod Fired
