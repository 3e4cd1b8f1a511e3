-- Any question of bytes can have its limits raised: the block of its words with the new limits, and its check. Assumes nothing.
use Prim.Native.Nat.{ℕ, ◌^◌, ◌<◌}
use mathlib.Core.Path.{◌≡◌, sym, ◌∙◌}
use mathlib.Core.Logic.{inl, inr}
use mathlib.Core.Bool.{Bool, true, false, cond}
use mathlib.Core.List.{List, [], append-nil}
use native.Mathlib.Omega.{arith}
use borrow.Author.Tests.{eq-eqb, ne_eqb}
use lib.Dec.{eqb}
use lib.ListN.{length}
use Rattle.blocks.specs.declared.Rule.{Rule}
use Rattle.blocks.specs.Words.{Bytes, word, check_right}
use Rattle.blocks.proofs.Laws.{length_block-bytes, block-word, block-check, sum_same}
use Rattle.blocks.proofs.Small.{word_small, block-bytes}
use Rattle.limits.specs.Raised.{AsOrRaised, Raised, words_with, with_limits, Raisable}

fits : (a b : ℕ) → a < 2 ^ 64 → AsOrRaised a b → b < 2 ^ 64
fits a b l (inl e) = rw (← e) l
fits a b l (inr h) = omega (arith, h.1)

module _ (rule : Rule) (q : List ℕ) (a b : ℕ) (of : Bytes q) (h : AsOrRaised (word q 12) a) (g : AsOrRaised (word q 14) b) where
  abbrev made : List ℕ
  made = with_limits rule q a b

  small : (k : ℕ) → words_with (word q) a b k < 2 ^ 64
  unfolding words_with
  small k = go (eqb k 12) (eqb k 14)
    where
      go : (c d : Bool) → cond c a (cond d b (word q k)) < 2 ^ 64
      go true d = fits (word q 12) a ((word_small q of).fits 12) h
      go false true = fits (word q 14) b ((word_small q of).fits 14) g
      go false false = (word_small q of).fits k

  read : (k : ℕ) → k < 63 → word made k ≡ words_with (word q) a b k
  read k l = rw append-nil at (block-word rule (words_with (word q) a b) k [] l (small k))

  check-right : check_right rule (word made) ≡ true
  unfolding check_right
  check-right = eq-eqb _ _ (sum_same rule (word made) (words_with (word q) a b) read ∙ sym (rw append-nil at (block-check rule (words_with (word q) a b) [])))

  is-raised : length q ≡ 512 → Raised rule q made
  unfolding words_with
  is-raised size = record {
    size = size ∙ sym (length_block-bytes rule (words_with (word q) a b));
    iterations = rw (read 12 (omega arith)) h;
    temperature_iterations = rw (read 14 (omega arith)) g;
    others = λ k l n m. sym (read k l ∙ rw (ne_eqb k 12 n, ne_eqb k 14 m));
    check = check-right;
  }

pub raisable : Raisable
raisable rule q a b of size h g = (is-raised rule q a b of h g size, block-bytes rule (words_with (word q) a b))
