-- The bound on the evaluations that a flash begins, and a flash that reaches it. Assumes nothing.
pub mod Bound
pub mod Reached
