pub mod Histories
pub mod Running
pub mod Settling
pub mod Undoing
pub mod Holding
pub mod Putting
