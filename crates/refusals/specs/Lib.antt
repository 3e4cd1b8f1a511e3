-- Which numbers refuse a call. Assumes nothing.
pub mod Numbered
