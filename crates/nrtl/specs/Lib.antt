-- The definitions that nrtl's contracts cite. Assumes nothing.
pub mod Columns
pub mod Lanes
pub mod State
pub mod On
