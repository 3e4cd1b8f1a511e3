-- Laws of a queue, which other crates may cite. Assumes nothing.
pub mod Calls
