-- What holds of every call with many feeds. Assumes nothing.
pub mod Alone
pub mod Striking
pub mod Numbered
