-- Laws that the proofs of saturation_temperature cite. Assumes nothing.
mod Searching
mod Points
