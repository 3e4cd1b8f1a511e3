-- What is written of a number and a place. Assumes nothing.
use Rattle.std.proofs.Common.{◌≡◌, ℕ, ◌≤◌, Bool, true, false, cond, ◌&&◌, nat_le, T, List, ◌++◌, length, take, drop, refl, sym, ap, ◌∙◌, zero-add, append_assoc, arith}
use Rattle.std.proofs.lemmas.Bool.{and_parts, leb-true}
use Rattle.std.proofs.lemmas.List.{drop-append-le, take-append-drop, length-take-le}
use Rattle.floats.specs.Outcome.{Out, ok, no, bind}
use Rattle.blocks.specs.Bytes.{put}
use Rattle.book.specs.declared.Place.{Place}
use Rattle.book.specs.declared.Place.TheVariants.{Nowhere}
use Rattle.book.specs.Place.{can_have}
use Rattle.sentences.specs.Sentence.{kept_place, sentence_written}
use Rattle.sentences.specs.Laws.{Words, Refused}

nowhere_can : (r : ℕ) → T (can_have r Nowhere)
unfolding can_have
nowhere_can r = tt

kept : (r : ℕ) (p : Place) (b : Bool) → can_have r p ≡ b → T (can_have r (cond b p Nowhere))
kept r p true e = rw e tt
kept r p false e = nowhere_can r

-- the place that is kept is one that the number can have
pub kept_can : (r : ℕ) (p : Place) → T (can_have r (kept_place r p))
kept_can r p = kept r p (can_have r p) refl

-- refused, and the slice as it was
pub not_written : (o : Out (List ℕ)) (r : ℕ) (old : List ℕ) → o ≡ no r → (no r ≡ bind o (λ bs. ok (length bs))) × (old ≡ sentence_written o old)
unfolding sentence_written bind
not_written o r old e = rw e (refl, refl)

behind : (n k : ℕ) (l : List ℕ) → k ≤ n → n ≤ length l → drop k (take n l) ++ drop n l ≡ drop k l
behind n k l h g =
    let s : k ≤ length (take n l) = omega (arith, length-take-le n l g) in
    sym (drop-append-le k (take n l) (drop n l) s) ∙ ap (drop k) (take-append-drop n l)

-- at the front of the first n bytes
pub written : (o : Out (List ℕ)) (bs old front : List ℕ) (n end : ℕ) {m : List ℕ} → o ≡ ok bs → front ≡ take n old → n ≤ length old → length bs ≤ n
    → (end ≡ length bs) × (m ≡ put front 0 bs) → (ok end ≡ bind o (λ bs. ok (length bs))) × (m ++ drop n old ≡ sentence_written o old)
unfolding sentence_written bind
written o bs old front n end {m} e f g h w =
    rw (e, w.0, w.1, f) (refl, rw (zero-add, append_assoc bs (drop (length bs) (take n old)) (drop n old), behind n (length bs) old h g) refl)

pub kept_refused : (r : ℕ) (p q : Place) → (nat_le 1 r && nat_le r 39) ≡ true → q ≡ kept_place r p → Words q → Refused r q
kept_refused r p q e k w =
    let b = and_parts (nat_le 1 r) (nat_le r 39) e in
    record { least = leb-true 1 r b.0; most = leb-true r 39 b.1; can = rw k (kept_can r p); words = w }
