-- What holds of every call with a queue. Assumes nothing.
pub mod Alone
pub mod Account
pub mod Striking
pub mod Numbered
