mod Chosen
mod CommaWords
mod CommandLine
mod Endings
pub mod Explained
pub mod Readings
pub mod Replays
