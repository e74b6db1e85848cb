pub mod Products
pub mod Memos
pub mod Standing
