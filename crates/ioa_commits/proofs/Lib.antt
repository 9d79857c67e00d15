-- the lemmas of this crate
pub mod SameConfs
pub mod Lookups
pub mod Raises
pub mod Puts
pub mod Commits
pub mod Advances
pub mod QuickCommits
