-- What a raised limit leaves as it was in each call. Assumes nothing.
pub mod Calls
pub mod Queue
pub mod Example
