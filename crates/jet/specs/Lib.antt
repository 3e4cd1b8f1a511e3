-- The definitions that jet's contracts cite. Assumes nothing.
pub mod Jets
pub mod Planes
pub mod Lanes
