-- Laws that callers of thermo_types cite. Assumes nothing.
pub mod Passing
pub mod Normalizing
mod OneReading
