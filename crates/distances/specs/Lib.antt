-- What holds of every distance. Assumes nothing.
pub mod First
pub mod Striking
pub mod Numbered
pub mod Refused
