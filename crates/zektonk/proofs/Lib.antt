-- What the proofs of zektonk cite. Assumes nothing.
mod Words
mod Placed
mod Said
