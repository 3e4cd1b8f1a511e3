-- Laws of Jets, which the proofs of other crates cite. Assumes nothing.
pub mod Sums
pub mod Near
pub mod Planes
pub mod Lanes
