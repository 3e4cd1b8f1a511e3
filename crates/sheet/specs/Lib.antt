-- The whole call, from bytes to bytes. Assumes nothing.
pub mod Tasks
pub mod Ready
pub mod Sheet
pub mod Unread
pub mod Asked
