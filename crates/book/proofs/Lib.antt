-- Laws of the book, which callers cite. Assumes nothing.
pub mod Bits
pub mod Laws
pub mod Blocks
pub mod Sound
pub mod Accepted
pub mod Unread
pub mod Places
