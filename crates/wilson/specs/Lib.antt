-- The definitions that wilson's contracts cite. Assumes nothing.
pub mod Sums
pub mod State
pub mod On
