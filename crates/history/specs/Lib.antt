pub mod Answers
pub mod Steps
pub mod Laws
pub mod Promise
pub mod Readings
pub mod Worked
