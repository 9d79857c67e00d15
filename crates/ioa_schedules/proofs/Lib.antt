-- the lemmas of this crate
pub mod Joins
pub mod Ends
pub mod Firsts
pub mod Runs
pub mod WholeRounds
pub mod ByStep
pub mod TurnLaws
