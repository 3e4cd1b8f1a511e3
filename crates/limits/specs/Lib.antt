-- What a raised limit leaves as it was. Assumes nothing.
pub mod Kept
pub mod Raised
pub mod Leaks
