-- Laws of the numbers of refusals. Assumes nothing.
pub mod Laws
pub mod Models
pub mod Rice
pub mod Saturation
pub mod Boiling
pub mod Stability
pub mod Flash
pub mod Theorem
pub mod Replied
