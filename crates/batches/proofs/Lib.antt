-- The proofs of the laws of many feeds. Assumes nothing.
pub mod Parts
pub mod Questions
pub mod Refusals
pub mod Alone
pub mod Strike
