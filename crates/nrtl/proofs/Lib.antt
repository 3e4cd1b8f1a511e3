-- Laws of the excess state. Assumes nothing.
mod Questions
mod Lanes
mod Whole
pub mod Tabled
