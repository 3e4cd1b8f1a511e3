-- What numbers over their sum pass. Assumes nothing.
pub mod Shares
