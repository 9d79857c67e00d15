-- the lemmas of this crate, and those that the crates above cite
pub mod Shorter
pub mod Begins
pub mod Called
pub mod Sound
pub mod Closing
pub mod CompleteSteps
pub mod CompleteTerms
pub mod Printed
pub mod PrintedGood
pub mod Turns
pub mod OtherMarks
