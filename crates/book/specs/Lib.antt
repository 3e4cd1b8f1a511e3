-- What the contracts of `book` cite. Assumes nothing.
pub mod Places
pub mod Book
pub mod Named
pub mod Place
