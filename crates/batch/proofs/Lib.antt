-- Laws of a call on many feeds. Assumes nothing.
pub mod Calls
