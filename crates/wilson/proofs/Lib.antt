-- Laws of Wilson's excess state. Assumes nothing.
mod Entries
mod Whole
pub mod Tabled
