-- What the contracts of distance cite. Assumes nothing.
pub mod Distance
pub mod Steps
