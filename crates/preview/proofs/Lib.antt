-- Laws of previews, which callers cite. Assumes nothing.
pub mod Laws
