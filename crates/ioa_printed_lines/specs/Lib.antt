-- what the contracts of this crate cite
pub mod TextSystems
pub mod PrintedLines
