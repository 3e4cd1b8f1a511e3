-- Laws of counted outcomes. Assumes nothing.
pub mod Laws
