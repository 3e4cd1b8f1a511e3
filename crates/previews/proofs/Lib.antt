-- The proofs of the laws of previews. Assumes nothing.
pub mod Places
pub mod Copy
pub mod Strike
pub mod Refusals
