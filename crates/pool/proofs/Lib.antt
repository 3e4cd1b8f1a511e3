-- Laws of pools, which other crates may cite. Assumes nothing.
pub mod Laws
pub mod Calls
