-- What the contracts of thermo_models cite. Assumes nothing.
pub mod Model
pub mod Domain
pub mod Activity
pub mod Validity
pub mod Mixture
