-- Laws of the vapor pressure. Assumes nothing.
pub mod Ways
