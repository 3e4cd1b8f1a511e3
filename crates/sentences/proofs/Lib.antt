-- How the contracts of sentences, and the laws of its specs/, are proved. Assumes nothing.
pub mod Parts
pub mod Matters
pub mod Fits
pub mod Kept
pub mod Digits
pub mod Theorem
