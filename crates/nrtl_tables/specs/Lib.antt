-- The definitions that the contracts of nrtl_tables cite. Assumes nothing.
pub mod Pair
pub mod Table
