-- Laws of thermo_models. Assumes nothing.
pub mod Answers
pub mod Pures
pub mod Stands
pub mod Pairs
pub mod Unread
pub mod Offered
mod Whole
pub mod Settled
