-- What the contracts of thermo_types cite. Assumes nothing.
pub mod Quantities
pub mod Composition
