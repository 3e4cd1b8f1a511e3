-- Laws of the excess state. Assumes nothing.
mod Tests
pub mod Passing
pub mod Steps
pub mod Ways
