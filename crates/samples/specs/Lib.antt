-- The sample sheets of docs/FORMAT.md. Assumes nothing.
pub mod Sheets
pub mod Samples
pub mod Absent
