-- What the contracts of saturation_temperature cite. Assumes nothing.
pub mod Search
pub mod Boiling
pub mod Answers
