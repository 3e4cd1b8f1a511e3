-- What the contracts of exports cite. Assumes nothing.
pub mod Slices
pub mod Models
