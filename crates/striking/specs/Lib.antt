-- What striking means. Assumes nothing.
pub mod Places
pub mod Accepted
pub mod Related
pub mod Results
pub mod Books
pub mod Words
pub mod Questions
pub mod Sheets
pub mod Build
pub mod Theorem
pub mod Leaks
