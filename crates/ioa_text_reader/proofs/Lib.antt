-- the lemmas of this crate
pub mod SoundTexts
pub mod CompleteTexts
pub mod Parsed
