-- Laws of a raised limit in each call. Assumes nothing.
pub mod Calls
pub mod Queue
pub mod Example
