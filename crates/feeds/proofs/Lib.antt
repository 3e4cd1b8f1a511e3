-- Laws of feeds. Assumes nothing.
pub mod Fractions
pub mod Books
pub mod Rest
pub mod Moles
pub mod Mass
pub mod Versions
pub mod Theorem
