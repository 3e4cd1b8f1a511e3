-- Laws of the blocks, which other crates may cite. Assumes nothing.
pub mod Laws
