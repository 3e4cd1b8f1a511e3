-- What equality up to the sign of zero means. Assumes nothing.
pub mod Same
pub mod Below
