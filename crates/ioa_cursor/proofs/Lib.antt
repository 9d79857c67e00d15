pub mod Steps
pub mod Exits
pub mod Lists
pub mod Shorter
pub mod Follow
pub mod SoundLists
pub mod CompleteLists
