-- Blocks put into the parts of a slice, one after the other: each part has its own, and nothing else is touched. Assumes nothing.
use Prim.Native.Nat.{ℕ, zero, suc, ◌+◌, ◌-◌, ◌*◌, ◌≤◌, ◌<◌}
use mathlib.Core.Path.{◌≡◌, refl, sym, ap, ◌∙◌}
use mathlib.Core.Logic.{⊎_elim}
use mathlib.Core.List.{List, ◌++◌, append_assoc}
use native.Mathlib.Nat.{eq-or-lt_of_le}
use native.Mathlib.Omega.{arith}
use lib.ListN.{length, take, drop, length-append, length-take, length-drop}
use lib.Seq.{length-take-le, take-append-add, take-add, drop_at, drop-append-add, drop-drop, get_or-take, get_or-drop, ext_get_or}
use Rattle.floats.specs.Fold.{fold_to}
use Rattle.blocks.specs.Bytes.{put}
use Rattle.exchanges.proofs.Places.{put_before}
use Rattle.replies.specs.Blocks.{answer_room}
use Rattle.batches.specs.Alone.{part}

-- ---- a slice with bs at an index
module _ (l bs : List ℕ) (from : ℕ) (h : from + length bs ≤ length l) where
  front_long : length (take from l) ≡ from
  front_long = length-take-le from l (omega arith)

  pub put-long : length (put l from bs) ≡ length l
  put-long = rw (length-append, length-append, front_long, length-drop) (omega arith)

  put-past : (b : ℕ) → from + length bs ≤ b → drop b (put l from bs) ≡ drop b l
  put-past b g =
      let e : b ≡ from + length bs + (b - (from + length bs)) = omega arith in
      let f : length (take from l ++ bs) ≡ from + length bs = rw (length-append, front_long) in
      ap (λ (i : ℕ). drop i (put l from bs)) e
      ∙ ap (λ (i : ℕ). drop (i + (b - (from + length bs))) (put l from bs)) (sym f)
      ∙ drop-append-add (take from l ++ bs) (drop (from + length bs) l) (b - (from + length bs))
      ∙ drop-drop (b - (from + length bs)) (from + length bs) l ∙ ap (λ (i : ℕ). drop i l) (sym e)

  -- a part that ends before bs
  put_ahead : (b w : ℕ) → b + w ≤ from → take w (drop b (put l from bs)) ≡ take w (drop b l)
  put_ahead b w g =
      ext_get_or 0 _ _ (simp (length-take, length-drop) (omega (arith, put-long))) (λ i k.
      let m : i < w = within i k in
      get_or-take w (drop b (put l from bs)) i 0 m ∙ get_or-drop b (put l from bs) i 0 ∙ put_before l bs from (omega arith) (b + i) (omega arith)
      ∙ sym (get_or-take w (drop b l) i 0 m ∙ get_or-drop b l i 0))
    where
      within : (i : ℕ) → i < length (take w (drop b (put l from bs))) → i < w
      within i k = omega (arith, k, length-take w (drop b (put l from bs)))

  -- the part that begins with bs
  put-here : (w : ℕ) → length bs ≤ w → take w (drop from (put l from bs)) ≡ put (take w (drop from l)) 0 bs
  put-here w g =
      let v = w - length bs in
      let e : w ≡ length bs + v = omega arith in
      let n : 0 + length bs ≡ length bs = omega arith in
      let a : drop from (put l from bs) ≡ bs ++ drop (from + length bs) l =
      rw append_assoc (drop_at (take from l) (bs ++ drop (from + length bs) l) from front_long) in
      let c : length (take (length bs) (drop from l)) ≡ length bs = length-take-le (length bs) (drop from l) (rw length-drop (omega arith)) in
      let d : drop (length bs) (take (length bs + v) (drop from l)) ≡ take v (drop (from + length bs) l) =
      rw (take-add (length bs) v (drop from l))
      (drop_at (take (length bs) (drop from l)) (take v (drop (length bs) (drop from l))) (length bs) c ∙ rw drop-drop) in
      rw (n, a, e, take-append-add bs (drop (from + length bs) l) v, d)

-- ---- the slice with f 0, f 1 and on, each at the front of its part
module _ (f : ℕ → List ℕ) (old : List ℕ) (count : ℕ) (room : answer_room * count ≤ length old) (fits : (j : ℕ) → j < count → length (f j) ≤ answer_room) where
  abbrev slice : ℕ → List ℕ
  slice m = fold_to (λ j (l : List ℕ). put l (answer_room * j) (f j)) old m

  pub slice-long : (m : ℕ) → m ≤ count → length (slice m) ≡ length old
  unfolding fold_to
  slice-long zero h = refl
  slice-long (suc m) h =
      let e = slice-long m (omega arith) in
      put-long (slice m) (f m) (answer_room * m) (omega (arith, fits m (omega arith), e)) ∙ e

  inner : (m : ℕ) → m < count → answer_room * m + length (f m) ≤ length (slice m)
  inner m h = omega (arith, fits m h, slice-long m (omega arith))

  -- behind the parts that have theirs
  pub slice-behind : (m b : ℕ) → m ≤ count → answer_room * m ≤ b → drop b (slice m) ≡ drop b old
  unfolding fold_to
  slice-behind zero b h g = refl
  slice-behind (suc m) b h g =
      put-past (slice m) (f m) (answer_room * m) (inner m h) b (omega (arith, fits m h)) ∙ slice-behind m b (omega arith) (omega arith)

  pub slice-part : (m k : ℕ) → m ≤ count → k < m → part (slice m) k ≡ put (part old k) 0 (f k)
  unfolding fold_to
  slice-part zero k h g = absurd (omega arith)
  slice-part (suc m) k h g =
      ⊎_elim
      (λ (e : k ≡ m). rw e (put-here (slice m) (f m) (answer_room * m) (inner m h) answer_room (fits m h)
      ∙ ap (λ (l : List ℕ). put (take answer_room l) 0 (f m)) (slice-behind m (answer_room * m) (omega arith) (omega arith))))
      (λ (l : k < m). put_ahead (slice m) (f m) (answer_room * m) (inner m h) (answer_room * k) answer_room (omega arith) ∙ slice-part m k (omega arith) l)
      (eq-or-lt_of_le (omega arith))
