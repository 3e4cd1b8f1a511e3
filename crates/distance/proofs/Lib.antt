-- Lemmas that the proofs of distance share, and laws that its callers cite. Assumes nothing.
pub mod Central
mod Calls
mod Steps
