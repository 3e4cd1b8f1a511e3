-- What the contracts of question cite. Assumes nothing.
pub mod Inputs
pub mod Asked
pub mod Named
