-- the lemmas of this crate
pub mod Elses
pub mod Schedules
pub mod Touching
pub mod Writings
pub mod PrintedLists
pub mod PrintedGroups
pub mod PrintedDeclared
pub mod PrintedStatements
pub mod PrintedTexts
pub mod TextPrinted
