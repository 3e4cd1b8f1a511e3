-- The ways out of the readers. Assumes nothing.
use Prim.Native.Nat.{ℕ, ◌<◌, ◌≤◌}
use mathlib.Core.Path.{◌≡◌, sym, ◌∙◌}
use mathlib.Core.Bool.{true, false}
use mathlib.Core.List.{List, ◌++◌}
use borrow.Author.Tests.{eq-eqb, ne_eqb, le-leb, lt-leb}
use lib.Dec.{leb→le}
use lib.ListN.{length, take, drop}
use Rattle.std.specs.Prelude.{Result, Ok, Err}
use Rattle.std.specs.Result.{IsErrAnd}
use denote.Ref.{Bor}
use Rattle.floats.specs.Outcome.{ok, no, bind, need}
use Rattle.floats.proofs.Outcomes.{need_inv}
use Rattle.outcome.specs.declared.Refusal.{Refusal}
use Rattle.outcome.specs.Refused.{number, number_in}
use Rattle.blocks.specs.Words.{word}
use Rattle.readers.specs.Readers.{
  part_length,
  trials_right,
  part_of,
  floor_words,
  floor_of,
  floor_to,
  lab_of,
  part_in,
  floor_number,
  floor_after,
  Fills,
}

-- ---- the ways out of `find_part`
module _ (s : List ℕ) {kind : ℕ} (k : kind ≡ word s 0) where
  pub kind_not : (kind ≡ 9 → ⊥) → no 1 ≡ part_of s
  unfolding part_of need
  kind_not h = rw (ne_eqb (word s 0) 9 (λ e. h (k ∙ e)))

  module _ (nine : kind ≡ 9) {trials : ℕ} (t : trials ≡ word s 12) where
    pub too_many : 8 < trials → no 1 ≡ part_of s
    unfolding part_of need
    too_many h = rw (eq-eqb (word s 0) 9 (sym k ∙ nine), lt-leb (word s 12) 8 (rw t at h))

    module _ (few : trials ≤ 8) where
      pub too_short : length s < part_length trials → no 1 ≡ part_of s
      unfolding part_of need
      too_short h = rw (eq-eqb (word s 0) 9 (sym k ∙ nine), le-leb (word s 12) 8 (rw t at few), lt-leb (part_length (word s 12)) (length s) (rw t at h))

      module _ (long : part_length trials ≤ length s) where
        pub other-kind : false ≡ trials_right s trials → no 1 ≡ part_of s
        unfolding part_of need
        other-kind h =
            rw (eq-eqb (word s 0) 9 (sym k ∙ nine), le-leb (word s 12) 8 (rw t at few), le-leb (part_length (word s 12)) (length s) (rw t at long), sym (rw t at h))

        pub part-found : true ≡ trials_right s trials → ok (part_length trials) ≡ part_of s
        unfolding part_of need
        part-found h =
            rw (eq-eqb (word s 0) 9 (sym k ∙ nine), le-leb (word s 12) 8 (rw t at few), le-leb (part_length (word s 12)) (length s) (rw t at long), sym (rw t at h), t)

-- a part lies in its slice
pub part-within : (s : List ℕ) {n : ℕ} → ok n ≡ part_of s → n ≤ length s
unfolding part_of
part-within s {n} e =
    let few = (need_inv _ 1 _ (need_inv _ 1 _ (sym e)).1).1 in
    let long = need_inv _ 1 _ few in
    let is = (need_inv _ 1 _ long.1).1 in
    let q : part_length (word s 12) ≡ n = cc in
    rw (← q) (leb→le _ _ long.0)

-- ---- what is read of a part
module _ (s : List ℕ) where
  pub floor-no : {r : ℕ} → no r ≡ part_of s → floor_of s ≡ no r
  unfolding floor_of bind
  floor-no e = rw (sym e)

  pub floor-ok : {n : ℕ} {ws : List ℕ} → ok n ≡ part_of s → ws ≡ floor_words s → ok ws ≡ floor_of s
  unfolding floor_of bind
  floor-ok e w = rw (sym e, w)

  pub lab-no : (e : Refusal) (r : Result (Bor (List ℕ)) Refusal) → IsErrAnd r (λ y. y ≡ e) → no (number e) ≡ part_of s → part_in r ≡ lab_of s
  unfolding lab_of bind
  lab-no e (Err y) h p = rw (h, sym p)
  lab-no e (Ok a) h p = absurd h

  pub lab-ok : {n : ℕ} → ok n ≡ part_of s → ok (take n s) ≡ lab_of s
  unfolding lab_of bind
  lab-ok e = rw (sym e)

-- ---- the ways out of `write_floor`
module _ (s : List ℕ) {old : List ℕ} where
  pub fills_no : (e : Refusal) (r : Result Unit Refusal) → IsErrAnd r (λ y. y ≡ e) → no (number e) ≡ floor_of s → Fills (floor_to s (length old)) (number_in r) old old
  unfolding floor_to bind floor_number floor_after
  fills_no e (Err y) h p = record { number = rw (h, sym p); words = rw (sym p) }
  fills_no e (Ok a) h p = absurd h

  module _ {ws : List ℕ} (p : ok ws ≡ floor_of s) where
    pub fills_short : length old < 22 → Fills (floor_to s (length old)) 10 old old
    unfolding floor_to bind need floor_number floor_after
    fills_short l = record { number = rw (sym p, lt-leb 22 (length old) l); words = rw (sym p, lt-leb 22 (length old) l) }

    pub fills_ok : {new : List ℕ} → 22 ≤ length old → new ≡ ws → Fills (floor_to s (length old)) 0 old (new ++ drop 22 old)
    unfolding floor_to bind need floor_number floor_after
    fills_ok l e = record { number = rw (sym p, le-leb 22 (length old) l); words = rw (sym p, le-leb 22 (length old) l, e) }
