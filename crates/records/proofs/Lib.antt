-- Laws of the records, which callers cite. Assumes nothing.
pub mod Offered
pub mod Rows
pub mod Loads
pub mod Entries
pub mod Unread
pub mod Sources
