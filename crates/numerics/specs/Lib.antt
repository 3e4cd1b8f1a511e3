-- The definitions that the contracts of numerics cite. Assumes nothing.
pub mod Numerics
