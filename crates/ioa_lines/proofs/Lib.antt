-- the lemmas of this crate
pub mod LineFeeds
pub mod Left
pub mod Parts
pub mod Ends
pub mod OwnTokens
pub mod ChosenValues
pub mod SoundLine
pub mod CompleteLine
pub mod LinesLaw
