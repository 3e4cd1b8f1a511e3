-- Laws of the place beside a refusal's number, proved. Assumes nothing.
pub mod First
pub mod Given
pub mod Fits
