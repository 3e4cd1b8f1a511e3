-- Laws of blocks, which callers cite. Assumes nothing.
pub mod Laws
pub mod Made
pub mod Running
pub mod Small
