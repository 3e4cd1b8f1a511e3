-- Laws that callers of tp_flash cite, and those of its own proofs. Assumes nothing.
pub mod Counts
pub mod Forgets
pub mod Laws
mod Settled
