pub mod Trailing
pub mod Writing
pub mod Unaltered
pub mod Traced
