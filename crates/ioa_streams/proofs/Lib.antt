-- lemmas of streams
mod Appended
mod Ends
mod Marks
mod Utf8
