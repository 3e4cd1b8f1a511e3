-- Laws of the evaluations that a flash begins. Assumes nothing.
pub mod Counts
pub mod Present
pub mod Solvers
pub mod Theorem
pub mod Reached
