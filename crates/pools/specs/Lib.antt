-- What holds of every pool. Assumes nothing.
pub mod Drums
pub mod Plain
pub mod Unread
pub mod Striking
pub mod Numbered
pub mod Samples
