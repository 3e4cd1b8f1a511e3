-- A part of a slice after `copy_from_slice`: what is stored there in index order, the rest as it was. Assumes nothing.
use Prim.Native.Nat.{ℕ, zero, suc, ◌+◌, ◌-◌, ◌≤◌, ◌<◌}
use mathlib.Core.Path.{◌≡◌, refl, sym, ap, ◌∙◌}
use mathlib.Core.Bool.{Bool, true, false}
use mathlib.Core.List.{List, ◌++◌}
use native.Mathlib.Omega.{arith}
use borrow.Author.Tests.{ltb-true, ltb-false}
use borrow.Rule.Slice.PartMut.{put_mid}
use lib.Dec.{ltb}
use lib.ListN.{length, take, drop, get_or, length-append, length-drop}
use lib.Seq.{ext_get_or, length-take-le}
use Rattle.std.proofs.lemmas.List.{get_or_append_left, get_or-append_right, get_or-take, get_or-drop}
use Rattle.floats.specs.Vector.{fill, fill_from}
use Rattle.floats.proofs.Fills.{fill_from_length, fill_from-at, fill_from_before, fill_from_past}

module _ {A : Type 0} (x : List A) (d : A) (a n : ℕ) (l : List A) (h : length x ≡ n) (g : a + n ≤ length l) where
  abbrev entry : ℕ → A
  entry k = get_or x k d

  front : length (take a l) ≡ a
  front = length-take-le a l (omega arith)

  rest : (i : ℕ) → a ≤ i → get_or (put_mid a n l x) i d ≡ get_or (x ++ drop n (drop a l)) (i - a) d
  rest i q = get_or-append_right (take a l) (x ++ drop n (drop a l)) a i d front q

  lengths : length (put_mid a n l x) ≡ length (fill_from entry a n l)
  lengths = omega (arith, length-append (take a l) (x ++ drop n (drop a l)), length-append x (drop n (drop a l)), length-drop n (drop a l), length-drop a l, front, h, fill_from_length entry a n l)

  each : (i : ℕ) → get_or (put_mid a n l x) i d ≡ get_or (fill_from entry a n l) i d
  each i = pick (ltb i a) (ltb i (a + n)) refl refl
    where
      pick : (b c : Bool) → ltb i a ≡ b → ltb i (a + n) ≡ c → get_or (put_mid a n l x) i d ≡ get_or (fill_from entry a n l) i d
      pick true c e f =
          let q : i < a = ltb-true i a e in
          get_or_append_left (take a l) _ d i (omega (arith, front)) ∙ get_or-take a l i d q ∙ sym (fill_from_before entry a n l d i q)
      pick false true e f =
          let q : a ≤ i = ltb-false i a e in
          let r : i < a + n = ltb-true i (a + n) f in
          let w : a + (i - a) ≡ i = omega arith in
          rest i q ∙ get_or_append_left x _ d (i - a) (omega arith) ∙ sym (fill_from-at entry a n l d (i - a) g (omega arith)) ∙ ap (λ k. get_or (fill_from entry a n l) k d) w
      pick false false e f =
          let q : a + n ≤ i = ltb-false i (a + n) f in
          let w : a + (n + (i - a - n)) ≡ i = omega arith in
          rest i (omega arith) ∙ get_or-append_right x _ n (i - a) d h (omega arith) ∙ get_or-drop n (drop a l) (i - a - n) d ∙ get_or-drop a l (n + (i - a - n)) d
          ∙ ap (λ k. get_or l k d) w ∙ sym (fill_from_past entry a n l d i q)

  pub copied : put_mid a n l x ≡ fill_from entry a n l
  copied = ext_get_or d _ _ lengths (λ i q. each i)

module _ {A : Type 0} where
  from_zero : (f : ℕ → A) (n : ℕ) (l : List A) → fill_from f 0 n l ≡ fill f n l
  unfolding fill_from fill
  from_zero f zero l = refl
  from_zero f (suc n) l = let k : 0 + n ≡ n = omega arith in rw (k, from_zero f n l)

  -- in the first places
  pub copied-front : (x : List A) (d : A) (n : ℕ) (l : List A) → length x ≡ n → n ≤ length l → x ++ drop n l ≡ fill (λ k. get_or x k d) n l
  copied-front x d n l h g = copied x d 0 n l h (omega arith) ∙ from_zero (λ k. get_or x k d) n l
