-- Laws of the readers. Assumes nothing.
pub mod Laws
