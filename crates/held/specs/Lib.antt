pub mod Answers
pub mod Held
pub mod Readings
pub mod Timings
pub mod Measures
