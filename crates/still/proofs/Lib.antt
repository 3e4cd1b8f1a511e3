-- Laws of the program's replies, and a refusal's place and sentence. Assumes nothing.
pub mod Laws
mod Reasons
