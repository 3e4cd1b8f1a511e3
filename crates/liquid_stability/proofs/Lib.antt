-- Laws that callers of liquid_stability cite, and those of its own proofs. Assumes nothing.
pub mod Laws
pub mod Counts
pub mod Forgets
