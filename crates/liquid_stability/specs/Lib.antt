-- What the contracts of liquid_stability cite. Assumes nothing.
pub mod Stability
pub mod Steps
pub mod Counted
