-- Blocks written one behind the other, read again: each at its place, with its words and a right check. Assumes nothing.
use mathlib.Core.Path.{◌≡◌, refl, sym, ◌∙◌}
use mathlib.Core.Logic.{inl, inr}
use mathlib.Core.List.{List, [], ◌++◌, append_assoc, append-nil}
use Prim.Native.Nat.{ℕ, zero, suc, ◌+◌, ◌*◌, ◌<◌}
use native.Mathlib.Nat.{eq-or-lt_of_le}
use native.Mathlib.Omega.{arith}
use borrow.Author.Tests.{eq-eqb}
use lib.ListN.{length, length-append}
use lib.Seq.{take_at, drop_at}
use lib.Dec.{T}
use Rattle.blocks.specs.Words.{word, block, check_right}
use Rattle.blocks.specs.declared.Rule.{Rule}
use Rattle.blocks.specs.Bytes.{row_to, block_bytes}
use Rattle.blocks.proofs.Laws.{length_block-bytes, block-word, block-check, sum_same}
use Rattle.book.specs.Places.{words}
use Rattle.blocks.proofs.Small.{Small}
use Rattle.striking.proofs.Books.{so}

-- ---- bytes bs stand in s from an index on
pub record Stands (s : List ℕ) (from : ℕ) (bs : List ℕ) : Type 0 where
  pub front : List ℕ
  pub rest : List ℕ
  pub long : length front ≡ from
  pub split : s ≡ front ++ (bs ++ rest)

pub first_of : (s t : List ℕ) → Stands (s ++ t) 0 s
first_of s t = record { front = []; rest = t; long = refl; split = refl }

pub last_of : (s t : List ℕ) → Stands (s ++ t) (length s) t
last_of s t = record { front = s; rest = []; long = refl; split = rw append-nil }

pub inside : {s t u : List ℕ} {i j k : ℕ} → Stands s i t → Stands t j u → i + j ≡ k → Stands s k u
inside {s} {t} {u} {i} {j} {k} a b e = record {
  front = a.front ++ b.front;
  rest = b.rest ++ a.rest;
  long = rw (length-append, a.long, b.long) e;
  split = a.split ∙ rw b.split (simp append_assoc);
}

pub in_row : (f : ℕ → List ℕ) (n k : ℕ) → k < n → Stands (row_to f n) (length (row_to f k)) (f k)
unfolding row_to
in_row f zero k l = absurd (omega arith)
in_row f (suc n) k l = elim (eq-or-lt_of_le l) [
  | inl e ↦ let d : k ≡ n = omega arith in rw d (last_of (row_to f n) (f n))
  | inr m ↦ let h : k < n = omega arith in inside (first_of (row_to f n) (f n)) (in_row f n k h) (omega arith)
]

-- ---- a block as it was written
pub block-is : (rule : Rule) (w : ℕ → ℕ) (s : List ℕ) (b : ℕ) → Stands s (512 * b) (block_bytes rule w) → block s b ≡ block_bytes rule w
unfolding block
block-is rule w s b at =
    rw (at.split, drop_at at.front (block_bytes rule w ++ at.rest) (512 * b) at.long, take_at (block_bytes rule w) at.rest 512 (length_block-bytes rule w))

module _ (rule : Rule) (w : ℕ → ℕ) (h : Small w) where
  pub written-word : (k : ℕ) → k < 63 → word (block_bytes rule w) k ≡ w k
  written-word k l = rw append-nil at (block-word rule w k [] l (h.fits k))

  pub written-check : T (check_right rule (word (block_bytes rule w)))
  unfolding check_right
  written-check = so (eq-eqb _ _ (sum_same rule (word (block_bytes rule w)) w written-word ∙ sym (rw append-nil at (block-check rule w []))))

  module _ (s : List ℕ) (b : ℕ) (at : Stands s (512 * b) (block_bytes rule w)) where
    pub read_word : (k : ℕ) → k < 63 → words s b k ≡ w k
    read_word k l = rw (block-is rule w s b at) (written-word k l)

    pub read-check : T (check_right rule (words s b))
    read-check = rw (block-is rule w s b at) written-check
