-- What a counted outcome is. Assumes nothing.
pub mod Counted
