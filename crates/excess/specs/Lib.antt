-- The definitions that the contracts of excess cite. Assumes nothing.
pub mod State
pub mod Answers
pub mod Steps
