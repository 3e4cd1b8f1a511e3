-- What an exchange of words does to a book. Assumes nothing.
pub mod Exchanges
