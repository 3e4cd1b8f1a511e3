-- Lemmas that the crates above use. Assumes nothing.
pub mod Exits
