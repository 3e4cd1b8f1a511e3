-- Laws of the vocabulary, which the proofs of every crate cite. Assumes nothing.
pub mod Nan
pub mod Folds
pub mod Fills
pub mod Outcomes
pub mod Squares
pub mod Chains
pub mod Copies
pub mod Made
pub mod Chosen
