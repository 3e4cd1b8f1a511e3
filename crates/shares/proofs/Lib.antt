-- The proof that numbers over their sum pass the tests of mole fractions. Assumes nothing.
pub mod Rounding
pub mod Totals
pub mod Values
pub mod Quotients
pub mod Tolerance
pub mod Theorem
