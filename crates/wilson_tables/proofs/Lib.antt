-- What the proofs of wilson_tables share. Assumes nothing.
mod Cells
