-- the lemmas of this crate
pub mod ReceiptLaws
pub mod RefusalLaws
pub mod QuickAttempts
