-- Laws of floats up to the sign of zero. Assumes nothing.
pub mod Congruence
pub mod Zero
pub mod Numbers
pub mod Below
