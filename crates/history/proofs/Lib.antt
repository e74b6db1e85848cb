pub mod Stepping
pub mod Agreeing
pub mod Settling
pub mod Working
