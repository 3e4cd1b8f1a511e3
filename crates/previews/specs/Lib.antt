-- What holds of every preview. Assumes nothing.
pub mod Copy
pub mod Striking
pub mod Numbered
