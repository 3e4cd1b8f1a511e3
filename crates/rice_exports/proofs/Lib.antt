-- Laws that the proofs of rice_exports and of exports cite. Assumes nothing.
pub mod Fronts
