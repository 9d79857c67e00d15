-- lemmas of explanations
mod Positions
mod Verdicts
mod Explained
mod Grown
