-- What the contracts of saturation cite. Assumes nothing.
pub mod Saturation
pub mod Counted
