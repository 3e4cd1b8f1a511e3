-- Laws that the proofs of rachford_rice and its callers cite. Assumes nothing.
pub mod Laws
pub mod Low
