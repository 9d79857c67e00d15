-- lemmas, by topic
pub mod Places
pub mod Filling
pub mod Joining
pub mod Numbered
