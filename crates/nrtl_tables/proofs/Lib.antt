-- What the proofs of the table's functions share. Assumes nothing.
mod Cells
