-- The proofs of the laws of floor and lab sheets. Assumes nothing.
pub mod Words
pub mod Equal
pub mod Behind
pub mod Blocks
pub mod Calls
pub mod Strike
pub mod Refusals
