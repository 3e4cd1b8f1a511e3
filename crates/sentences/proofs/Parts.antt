-- A sentence as the parts that it is written in. Assumes nothing.
use Rattle.std.proofs.Common.{◌≡◌, ℕ, ◌+◌, ◌≤◌, List, ◌++◌, length, take, ◌∙◌, append_assoc, arith, length-append, length-take}
use Rattle.blocks.specs.Bytes.{put}
use Rattle.blocks.proofs.Laws.{put-more}

-- bs is written at an index: how far the slice is written then, and what it holds
pub record Added (l : List ℕ) (at : ℕ) (bs : List ℕ) (end : ℕ) (m : List ℕ) : Type 0 where
  pub end_is : end ≡ at + length bs
  pub slice_is : m ≡ put l at bs

pub one_part : {l : List ℕ} {at : ℕ} {end : ℕ} {m : List ℕ} (bs : List ℕ) → (end ≡ at + length bs) × (m ≡ put l at bs) → Added l at bs end m
one_part bs e = record { end_is = e.0; slice_is = e.1 }

put-put : (l x y : List ℕ) (at : ℕ) → at + length x ≤ length l → put (put l at x) (at + length x) y ≡ put l at (x ++ y)
put-put l x y at h =
    let e : length (take at l ++ x) ≡ at + length x = rw (length-append, length-take) (omega arith) in
    let s : at + length x + length y ≡ at + length (x ++ y) = rw length-append (omega arith) in
    let a : (take at l ++ x) ++ y ≡ take at l ++ (x ++ y) = append_assoc (take at l) x y in
    put-more (take at l ++ x) l y (at + length x) e ∙ rw (a, s)

-- one more part
pub more_parts : {l : List ℕ} {at : ℕ} {x : List ℕ} {end end' : ℕ} {m m' : List ℕ} (y : List ℕ) → Added l at x end m
    → (end' ≡ end + length y) × (m' ≡ put m end y) → end ≤ length l → Added l at (x ++ y) end' m'
more_parts {l} {at} {x} {end} {end'} {m} {m'} y a e h = record {
  end_is = e.0 ∙ rw (a.end_is, length-append) (omega arith);
  slice_is = e.1 ∙ rw (a.slice_is, a.end_is) (put-put l x y at (omega (arith, a.end_is)));
}

pub ends : {l : List ℕ} {at : ℕ} {bs : List ℕ} {end : ℕ} {m : List ℕ} → Added l at bs end m → (end ≡ at + length bs) × (m ≡ put l at bs)
ends a = (a.end_is, a.slice_is)
