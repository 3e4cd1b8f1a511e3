-- Laws of distances. Assumes nothing.
pub mod Pressures
pub mod Search
pub mod Plain
pub mod First
pub mod Inner
pub mod Refusals
pub mod Striking
pub mod Evaluated
pub mod Refused
