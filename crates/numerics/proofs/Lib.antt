mod Powers
mod Bounds
mod Limits
mod Splits
pub mod Mantissa
mod Patterns
mod Grid
mod Scales
pub mod Signs
mod Guess
mod Vectors
mod Fields
