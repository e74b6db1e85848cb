pub mod Lines
pub mod Blanks
pub mod Tables
pub mod Lent
pub mod Written
pub mod Trails
pub mod Traces
pub mod Theorems
