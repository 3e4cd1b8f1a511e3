-- The definitions that the contracts of wilson_tables cite. Assumes nothing.
pub mod Pair
pub mod Table
