-- What the contracts of outcome cite. Assumes nothing.
pub mod Refused
