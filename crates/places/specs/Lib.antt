-- The laws. Assumes nothing.
pub mod Laws
