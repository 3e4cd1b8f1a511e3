-- A place is one that its number can have, and three words say all of it. Assumes nothing.
use Rattle.std.proofs.Common.{◌≡◌, ℕ, ◌==◌, Bool, true, false, cond, Option, Some, None, List, refl, eqb-true}
use Rattle.floats.specs.Outcome.{Out, ok, no}
use Rattle.book.specs.declared.Head.{Head}
use Rattle.book.specs.declared.Place.{Place}
use Rattle.book.specs.declared.Place.TheVariants.{Nowhere, Block, Pair, Offered}
use Rattle.book.specs.Places.{words}
use Rattle.book.specs.Book.{head_in, book_of}
use Rattle.book.specs.Place.{block_behind, solvents_at, pair_at, place_in, shaped, place_of, place_past, put_to_blocks, put_to_offered, can_have, place_words, place_from}
use Rattle.places.specs.Laws.{PlaceFits, WordsBack}

record Fits (r : ℕ) (p : Place) : Type 0 where
  can : can_have r p ≡ true

nowhere : (r : ℕ) → Fits r Nowhere
unfolding can_have
nowhere r = record { can = refl }

block-fits : (r from : ℕ) (o : Option ℕ) → put_to_blocks r ≡ true → Fits r (block_behind from o)
unfolding can_have block_behind
block-fits r from None e = record { can = refl }
block-fits r from (Some k) e = record { can = e }

pair_fits : (r n : ℕ) (o : Option (ℕ × ℕ)) → put_to_blocks r ≡ true → Fits r (pair_at n o)
unfolding can_have pair_at
pair_fits r n None e = record { can = refl }
pair_fits r n (Some p) e = record { can = e }

solvents_fit : (r : ℕ) (o : Option (ℕ × ℕ)) → (r == 6) ≡ true → Fits r (solvents_at o)
unfolding can_have solvents_at
solvents_fit r None e = record { can = refl }
solvents_fit r (Some p) e = record { can = e }

offered-fits : (r : ℕ) → put_to_offered r ≡ true → Fits r Offered
unfolding can_have
offered-fits r e = record { can = e }

-- what follows a test
tested : (r : ℕ) (b : Bool) {p q : Place} → (b ≡ true → Fits r p) → Fits r q → Fits r (cond b p q)
tested r true f g = f refl
tested r false f g = g

-- a number of the blocks
blocks_are : (r k : ℕ) → put_to_blocks k ≡ true → (r == k) ≡ true → put_to_blocks r ≡ true
blocks_are r k h e = rw (eqb-true r k e) h

in-fits : (w : ℕ → ℕ → ℕ) (h : Head) (r : ℕ) → Fits r (place_in w h r)
unfolding place_in
in-fits w h r =
    tested r (r == 4) (λ e. block-fits r _ _ (blocks_are r 4 refl e))
    (tested r (r == 5) (λ e. block-fits r _ _ (blocks_are r 5 refl e))
    (tested r (r == 6) (λ e. solvents_fit r _ e)
    (tested r (r == 7) (λ e. pair_fits r _ _ (blocks_are r 7 refl e))
    (tested r (r == 8) (λ e. block-fits r _ _ (blocks_are r 8 refl e))
    (tested r (r == 9) (λ e. block-fits r _ _ (blocks_are r 9 refl e)) (nowhere r))))))

of-fits : (s : List ℕ) (r : ℕ) → Fits r (place_of s r)
unfolding place_of
of-fits s r = tested r _ (λ e. nowhere r) (tested r (r == 2) (λ e. block-fits r _ _ (blocks_are r 2 refl e)) (tested r (shaped s) (λ e. in-fits (words s) (head_in (words s 0)) r) (nowhere r)))

past-fits : (o : Out Head) (s : List ℕ) (r : ℕ) → Fits r (place_past o s r)
unfolding place_past
past-fits (ok h) s r = tested r (put_to_offered r) (offered-fits r) (nowhere r)
past-fits (no q) s r = of-fits s r

pub place-fits : PlaceFits
place-fits s r = ((of-fits s r).can, (past-fits (book_of s) s r).can)

pub words-back : WordsBack
unfolding place_words place_from
words-back Nowhere = refl
words-back (Block k) = refl
words-back (Pair i j) = refl
words-back Offered = refl
