-- lemmas of what a run leaves
pub mod Runs
