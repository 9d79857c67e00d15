-- the lemmas of this crate
pub mod Moments
pub mod PastBooks
pub mod PastHands
pub mod Told
pub mod Replies
pub mod CommitLaws
