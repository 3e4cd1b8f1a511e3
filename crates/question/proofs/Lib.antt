-- Laws of the question, which callers cite. Assumes nothing.
pub mod Laws
pub mod Unread
pub mod Asks
