-- What the contract of the queue cites. Assumes nothing.
pub mod Queue
