-- lemmas of places
mod Ends
mod Repeats
