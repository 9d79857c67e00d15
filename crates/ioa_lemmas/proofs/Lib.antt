-- lemmas, by topic
pub mod Filters
