-- Which words of a book are read, and two books that differ in no such word. Assumes nothing.
use Rattle.std.specs.Prelude.{◌≡◌, ℕ, Bool, cond, ◌&&◌, ◌||◌, T, List, length, ◌==◌, nat_le, nat_lt}
use Rattle.book.specs.declared.Model.{Model}
use Rattle.book.specs.declared.Model.TheVariants.{Nrtl, Wilson}
use Rattle.book.specs.Places.{words}
use Rattle.book.specs.Book.{has_masses, model_in}

-- the word behind a pair's parameters
unfoldable pub parameters_end : Model → ℕ
parameters_end Nrtl = 15
parameters_end Wilson = 7

-- of a pair's block, `flag` its interval flag: its parameters and what stands before them, words 15 and 18, the bounds (16 and 17) only if flagged
unfoldable pub pair_named : Model → ℕ → ℕ → Bool
pair_named m flag k = nat_lt k (parameters_end m) || cond (flag == 0) (k == 15 || k == 18) (nat_le 15 k && nat_le k 18)

-- of a solvent's block: words 0 to 44, and its molar mass from version 2 on
unfoldable pub solvent_named : ℕ → ℕ → Bool
solvent_named version k = nat_lt k 45 || (has_masses version && k == 45)

-- word k of block j in a book of n solvents with the words w: 0 to 3 of block 0, those of a solvent and of a pair
unfoldable pub named : (ℕ → ℕ → ℕ) → ℕ → ℕ → ℕ → Bool
named w n j k = cond (j == 0) (nat_lt k 4) (cond (nat_le j n) (solvent_named (w 0 1) k) (pair_named (model_in (w 0)) (w j 15) k))

-- equally long, and equal in every named word
pub record Agree (s t : List ℕ) : Type 0 where
  pub size : length s ≡ length t
  pub same : (j k : ℕ) → T (named (words s) (words s 0 2) j k) → words s j k ≡ words t j k
