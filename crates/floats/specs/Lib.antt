-- The shared vocabulary of all definitions. Assumes nothing.
pub mod Arithmetic
pub mod Small
pub mod Fold
pub mod Vector
pub mod Outcome
