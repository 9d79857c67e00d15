-- lemmas, lowest types first
pub mod Actions
pub mod Programs
pub mod Books
