-- The law of exchanged words: it holds of version 3, and not of versions 1 and 2. Assumes nothing.
pub mod Places
pub mod Sums
pub mod Theorem
pub mod Smallest
pub mod Plain
pub mod Running
