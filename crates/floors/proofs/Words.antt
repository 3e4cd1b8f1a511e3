-- What stands at each place of the floor's words. Assumes nothing.
use Prim.Native.Nat.{ℕ, zero, suc, ◌+◌, ◌≤◌, ◌<◌}
use mathlib.Core.Path.{◌≡◌, refl, ap, ◌∙◌}
use mathlib.Core.Logic.{◌≢◌}
use mathlib.Core.Bool.{Bool, true, false}
use mathlib.Core.List.{List}
use native.Mathlib.Omega.{arith}
use borrow.Author.Tests.{lt-ltb, le-ltb, eq-eqb, ne_eqb, eqb-true, eqb-false}
use lib.Dec.{eqb}
use lib.ListN.{replicate, get_or-replicate}
use lib.Seq.{get_or-set_other}
use Rattle.floats.specs.Vector.{fill}
use Rattle.floats.specs.Outcome.{ok}
use Rattle.floats.proofs.Fills.{fill-at}
use Rattle.floats.proofs.Outcomes.{bind_inv}
use Rattle.blocks.specs.Words.{word}
use Rattle.blocks.specs.Bytes.{word_at}
use Rattle.readers.specs.Readers.{part_of, floor_place, shown_of, floor_words, floor_of}

-- a slice that is read shows its words
pub floor-is : (s ws : List ℕ) → floor_of s ≡ ok ws → ws ≡ floor_words s
unfolding floor_of
floor-is s ws e = let w = (bind_inv (part_of s) (λ n. ok (floor_words s)) e).2 in cc

-- ---- which word stands at place i
pub place-front : (i : ℕ) → i < 5 → floor_place i ≡ 1 + i
unfolding floor_place
place-front i l = rw (lt-ltb i 5 l)

pub place_rest : (i : ℕ) → 6 ≤ i → floor_place i ≡ 8 + i
unfolding floor_place
place_rest i l = rw (le-ltb i 5 (omega arith), ne_eqb i 5 (λ (e : i ≡ 5). omega arith))

-- ---- how many are shown
pub shown-five : (task : ℕ) → task ≡ 1 → shown_of task ≡ 5
unfolding shown_of
shown-five task e = rw (eq-eqb task 1 e)

pub shown-all : (task : ℕ) → task ≢ 1 → shown_of task ≡ 22
unfolding shown_of
shown-all task d = rw (ne_eqb task 1 d)

-- ---- place i of the 22
past : (f : ℕ → ℕ) (n : ℕ) (m : List ℕ) (i : ℕ) → n ≤ i → word_at (fill f n m) i ≡ word_at m i
unfolding fill
past f zero m i l = refl
past f (suc n) m i l = get_or-set_other (fill f n m) n i (f n) 0 (λ (e : i ≡ n). omega arith) ∙ past f n m i (omega arith)

module _ (s : List ℕ) {n : ℕ} (e : shown_of (word s 1) ≡ n) (i : ℕ) where
  pub place-shown : n ≤ 22 → i < n → word_at (floor_words s) i ≡ word s (floor_place i)
  unfolding floor_words
  place-shown few l = rw e (fill-at (λ k. word s (floor_place k)) n (replicate 22 0) 0 i few l)

  pub place_hidden : i < 22 → n ≤ i → word_at (floor_words s) i ≡ 0
  unfolding floor_words
  place_hidden m l = rw e (past (λ k. word s (floor_place k)) n (replicate 22 0) i l ∙ get_or-replicate 22 i 0 0 m)

-- the first five are shown of every task
pub place-five : (s : List ℕ) (i : ℕ) → i < 5 → word_at (floor_words s) i ≡ word s (1 + i)
place-five s i l = go (eqb (word s 1) 1) refl ∙ ap (word s) (place-front i l)
  where
    go : (b : Bool) → eqb (word s 1) 1 ≡ b → word_at (floor_words s) i ≡ word s (floor_place i)
    go true e = place-shown s (shown-five (word s 1) (eqb-true (word s 1) 1 e)) i (omega arith) l
    go false e = place-shown s (shown-all (word s 1) (eqb-false (word s 1) 1 e)) i (omega arith) (omega arith)
