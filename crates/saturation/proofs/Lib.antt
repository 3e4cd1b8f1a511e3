-- Laws that the proofs of saturation, and its callers' proofs, cite. Assumes nothing.
pub mod Answers
pub mod Forgets
mod Laws
