-- Laws of a raised limit. Assumes nothing.
pub mod Kept
pub mod Rice
pub mod Saturation
pub mod Stability
pub mod Boiling
pub mod Flash
pub mod Tasks
pub mod Questions
pub mod Theorem
pub mod Leaks
pub mod Build
