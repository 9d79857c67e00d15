-- lemmas of slots
mod Behind
pub mod Dealing
pub mod InOrder
pub mod Numbers
mod Own
pub mod Unbegun
