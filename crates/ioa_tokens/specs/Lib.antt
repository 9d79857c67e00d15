-- what the contracts of this crate cite
pub mod Tables
pub mod Lexeme
pub mod Tokens
pub mod LineTokens
pub mod Written
pub mod Faults
