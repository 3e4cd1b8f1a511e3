-- A book that is refused with a number of its blocks has a place, and an offered block that says no is named as that. Assumes nothing.
use Rattle.std.proofs.Common.{◌≡◌, ℕ, ◌+◌, ◌-◌, ◌/◌, ◌==◌, Bool, true, false, not, ◌||◌, List, length, Option, Some, None, sym, refl, ◌∙◌, true≢false, arith, T}
use mathlib.Core.Logic.{◌≢◌}
use Rattle.floats.specs.Fold.{all_to}
use Rattle.floats.specs.Outcome.{Out, ok, no, need}
use Rattle.floats.proofs.Chains.{all_each}
use Rattle.blocks.specs.Words.{check_right}
use Rattle.book.specs.declared.Head.{Head}
use Rattle.book.specs.declared.Place.TheVariants.{Nowhere}
use Rattle.book.specs.Places.{words, pair_count, row_from, pair_place}
use Rattle.book.specs.Book.{solvent_right, records_right, cas_new, pair_right, row_right, pair_finite, alphas_equal, head_in, pairs_of, solvents_of, head_of, whole_blocks, rule_of, book_of, offered_of}
use Rattle.book.specs.Place.{lowest, first_pair, block_behind, solvents_at, pair_at, place_in, shaped, place_of, put_to_offered, place_past, put_to_blocks}
use Rattle.book.proofs.Places.{place_on}
use Rattle.places.specs.Laws.{PlaceGiven, OfferedNamed}
use Rattle.places.proofs.First.{lowest_of_none, pair_of_none}

-- ---- what is known of the number, if an outcome is refused
record Refused {A : Type 0} (P : ℕ → Type 0) (o : Out A) : Type 0 where
  with_number : (r : ℕ) → o ≡ no r → P r

module _ {A : Type 0} (P : ℕ → Type 0) where
  refused-no : (r : ℕ) → P r → Refused {A = A} P (no r)
  refused-no r p = record { with_number = λ q e. let i : r ≡ q = cc in rw i at p }

  refused-ok : (a : A) → Refused P (ok a)
  refused-ok a = record { with_number = λ q e. cc }

  refused-need : (b : Bool) (r : ℕ) {o : Out A} → (b ≡ false → P r) → (b ≡ true → Refused P o) → Refused P (need b r o)
  unfolding need
  refused-need true r f g = g refl
  refused-need false r f g = refused-no r (f refl)

-- ---- a search of which the test is not true of all finds one
behind_given : (q : ℕ → Bool) (from n : ℕ) → all_to q n ≡ false → block_behind from (lowest q n) ≢ Nowhere
unfolding block_behind
behind_given q from n e = go (lowest q n) refl
  where
    go : (o : Option ℕ) → lowest q n ≡ o → block_behind from o ≢ Nowhere
    go None f g = true≢false (sym (lowest_of_none q n f) ∙ e)
    go (Some k) f g = cc

pair_given : (q : ℕ → ℕ → Bool) (n : ℕ) → (first_pair q n ≡ None → ⊥) → pair_at n (first_pair q n) ≢ Nowhere
unfolding pair_at
pair_given q n e = go (first_pair q n) refl
  where
    go : (o : Option (ℕ × ℕ)) → first_pair q n ≡ o → pair_at n o ≢ Nowhere
    go None f g = e f
    go (Some p) f g = cc

solvents_given : (q : ℕ → ℕ → Bool) (n : ℕ) → (first_pair q n ≡ None → ⊥) → solvents_at (first_pair q n) ≢ Nowhere
unfolding solvents_at
solvents_given q n e = go (first_pair q n) refl
  where
    go : (o : Option (ℕ × ℕ)) → first_pair q n ≡ o → solvents_at o ≢ Nowhere
    go None f g = e f
    go (Some p) f g = cc

-- the two questions that are put to pairs
all_new : (w : ℕ → ℕ → ℕ) (n : ℕ) → first_pair (λ i j. not (w (i + 1) 2 == w (j + 1) 2)) n ≡ None → all_to (cas_new w) n ≡ true
unfolding cas_new
all_new w n e = all_each (cas_new w) n (λ i l. all_each (λ j. not (w (j + 1) 2 == w (i + 1) 2)) i (λ j h. pair_of_none (λ i j. not (w (i + 1) 2 == w (j + 1) 2)) n e j i h l))

rows_right : (w : ℕ → ℕ → ℕ) (n : ℕ) → first_pair (λ i j. pair_right (w (pair_place n i j)) i j) n ≡ None → all_to (λ i. row_right w i (row_from n i) (n - i - 1)) n ≡ true
unfolding row_right
rows_right w n e = all_each (λ i. row_right w i (row_from n i) (n - i - 1)) n (λ i l. all_each (λ d. pair_right (w (row_from n i + d)) i (i + 1 + d)) (n - i - 1) (λ d h.
    rw place_on at (pair_of_none (λ i j. pair_right (w (pair_place n i j)) i j) n e i (i + 1 + d) (omega arith) (omega arith))))

-- ---- questions 4 to 9
module _ (w : ℕ → ℕ → ℕ) (h : Head) where
  abbrev Placed : ℕ → Type 0
  Placed r = T (put_to_blocks r || (r == 6)) → ((r == 2) ≡ false) × (place_in w h r ≢ Nowhere)

  pairs-placed : Refused Placed (pairs_of w h)
  unfolding pairs_of place_in
  pairs-placed =
      refused-need Placed _ 7 (λ e t. (refl, pair_given (λ i j. pair_right (w (pair_place h.n i j)) i j) h.n (λ f. true≢false (sym (rows_right w h.n f) ∙ e))))
      (λ _. refused-need Placed _ 8 (λ e t. (refl, behind_given (λ d. pair_finite h.model (w (1 + h.n + d))) (1 + h.n) (pair_count h.n) e))
      (λ _. refused-need Placed _ 9 (λ e t. (refl, behind_given (λ d. alphas_equal h.model (w (1 + h.n + d))) (1 + h.n) (pair_count h.n) e))
      (λ _. refused-ok Placed h)))

  solvents-placed : Refused Placed (solvents_of w h)
  unfolding solvents_of place_in
  solvents-placed =
      refused-need Placed _ 4 (λ e t. (refl, behind_given (λ i. solvent_right (w (i + 1)) i) 1 h.n e))
      (λ _. refused-need Placed _ 5 (λ e t. (refl, behind_given (λ i. records_right (w (i + 1))) 1 h.n e))
      (λ _. refused-need Placed _ 35 (λ e t. absurd t)
      (λ _. refused-need Placed _ 6 (λ e t. (refl, solvents_given (λ i j. not (w (i + 1) 2 == w (j + 1) 2)) h.n (λ f. true≢false (sym (all_new w h.n f) ∙ e))))
      (λ _. pairs-placed))))

-- ---- a book's bytes
module _ (s : List ℕ) where
  abbrev Given : ℕ → Type 0
  Given r = T (put_to_blocks r || (r == 6)) → place_of s r ≢ Nowhere

  two-given : whole_blocks s ≡ true → all_to (λ k. check_right (rule_of s) (words s k)) (length s / 512) ≡ false → place_of s 2 ≢ Nowhere
  unfolding place_of
  two-given a e = rw a (behind_given (λ k. check_right (rule_of s) (words s k)) 0 (length s / 512) e)

  shape_given : whole_blocks s ≡ true → shaped s ≡ true → Refused Given (solvents_of (words s) (head_in (words s 0)))
  unfolding place_of
  shape_given a b = record { with_number = λ r e t. let p = (solvents-placed (words s) (head_in (words s 0))).with_number r e t in rw (a, p.0, b) p.1 }

  book-given : Refused Given (book_of s)
  unfolding book_of head_of
  book-given =
      refused-need Given _ 1 (λ e t. absurd t) (λ a. refused-need Given _ 1 (λ e t. absurd t)
      (λ b. let whole : whole_blocks s ≡ true = rw (a, b) in
      refused-need Given _ 38 (λ e t. absurd t) (λ _. refused-need Given _ 2 (λ e t. two-given whole e)
      (λ _. refused-need Given _ 3 (λ e t. absurd t) (λ c. refused-need Given _ 3 (λ e t. absurd t)
      (λ d. let shape : shaped s ≡ true = rw (c, d) in
      refused-need Given _ 37 (λ e t. absurd t) (λ _. shape_given whole shape)))))))

pub place-given : PlaceGiven
place-given s r = (book-given s).with_number r

-- ---- the offered block
abbrev Put : ℕ → Type 0
Put r = put_to_offered r ≡ true

offered-put : (s offered : List ℕ) (h : Head) → Refused Put (offered_of (rule_of s) h offered)
unfolding offered_of
offered-put s offered h =
    refused-need Put _ 1 (λ _. refl) (λ _. refused-need Put _ 2 (λ _. refl) (λ _. refused-need Put _ 7 (λ _. refl)
    (λ _. refused-need Put _ 8 (λ _. refl) (λ _. refused-need Put _ 9 (λ _. refl) (λ _. refused-ok Put h)))))

pub offered-named : OfferedNamed
unfolding place_past
offered-named s offered h h' r e f = rw (e, (offered-put s offered h').with_number r f)
