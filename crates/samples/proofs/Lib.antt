-- What is proved of the sample sheets. Assumes nothing.
pub mod Books
pub mod Test
pub mod Shorter
pub mod Absent
