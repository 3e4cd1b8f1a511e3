-- What holds of every floor and lab sheet. Assumes nothing.
pub mod Equal
pub mod Written
pub mod Behind
pub mod Striking
pub mod Numbered
