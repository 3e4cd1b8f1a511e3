-- The proofs of the laws of pools. Assumes nothing.
pub mod Drums
pub mod Exact
pub mod Fractions
pub mod Plain
pub mod Unread
pub mod Keeping
pub mod Refusals
pub mod Strike
pub mod Samples
