-- What the contracts of rachford_rice cite. Assumes nothing.
pub mod Rachford
