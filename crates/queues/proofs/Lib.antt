-- The proofs of the laws of a queue. Assumes nothing.
pub mod Alone
pub mod Account
pub mod Counts
pub mod Refusals
pub mod Strike
