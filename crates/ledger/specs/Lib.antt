pub mod Answers
pub mod Calls
pub mod Histories
pub mod Ledger
pub mod Laws
