-- Jets side by side: what stands where, more lanes, and an odd count. Assumes nothing.
use Prim.Native.Nat.{ℕ, zero, suc, ◌+◌, ◌*◌, ◌%◌, ◌<◌, ◌≤◌}
use mathlib.Core.Path.{◌≡◌, refl, sym, ◌∙◌, ap}
use mathlib.Core.Logic.{⊎_elim}
use mathlib.Core.List.{List}
use native.Mathlib.Nat.{eq-or-lt_of_le}
use native.Mathlib.Omega.{arith}
use lib.ListN.{set, length, replicate, length-set, length-replicate, get_or-replicate}
use lib.Seq.{get_or-set_same, get_or-set_other, set-set, set-get_or}
use lib.Ieee.{Float, nan}
use Rattle.floats.specs.Arithmetic.{0f}
use Rattle.floats.specs.Fold.{fold_to}
use Rattle.floats.specs.Vector.{at, fill, zeros8}
use Rattle.jet.specs.declared.Jet.{Jet}
use Rattle.jet.specs.Planes.{first_two}
use Rattle.jet.proofs.Planes.{two_is, jet_is}
use Rattle.excess.specs.Steps.{GammasTo}
use Rattle.nrtl.specs.Lanes.{parts_of, lane, lanes, lanes_from, jet_in, two_in, evened, Cleared}

-- ---- one lane

-- the code's stores: value and slope, and a Jet
pub two-kept : (j : Jet) (i : ℕ) (l : List Float) → set (set l i j.v) (8 + i) j.d ≡ lane j i 2 l
unfolding fold_to parts_of
two-kept j i l = let z : 0 + i ≡ i = omega arith in rw z

pub jet_kept : (j : Jet) (i : ℕ) (l : List Float) → set (set (set l i j.v) (8 + i) j.d) (16 + i) j.dd ≡ lane j i 3 l
unfolding fold_to parts_of
jet_kept j i l = let z : 0 + i ≡ i = omega arith in rw z

-- ---- what stands where
lane_length : (j : Jet) (i m : ℕ) (l : List Float) → length (lane j i m l) ≡ length l
unfolding fold_to
lane_length j i zero l = refl
lane_length j i (suc m) l = length-set (lane j i m l) (m * 8 + i) (parts_of j m) ∙ lane_length j i m l

lane-at : (j : Jet) (i m : ℕ) (l : List Float) (k : ℕ) → i < 8 → m * 8 ≤ length l → k < m → at (lane j i m l) (k * 8 + i) ≡ parts_of j k
unfolding fold_to
lane-at j i zero l k h s q = absurd (omega arith)
lane-at j i (suc m) l k h s q =
    ⊎_elim
    (λ (p : k ≡ m). rw p (get_or-set_same (lane j i m l) (m * 8 + i) (parts_of j m) nan (omega (arith, lane_length j i m l))))
    (λ (p : k < m). get_or-set_other (lane j i m l) (m * 8 + i) (k * 8 + i) (parts_of j m) nan (omega arith) ∙ lane-at j i m l k h (omega arith) p)
    (eq-or-lt_of_le (omega arith))

lane-other : (j : Jet) (i o m : ℕ) (l : List Float) (k : ℕ) → i < 8 → o < 8 → (i ≡ o → ⊥) → at (lane j i m l) (k * 8 + o) ≡ at l (k * 8 + o)
unfolding fold_to
lane-other j i o zero l k h q n = refl
lane-other j i o (suc m) l k h q n =
    get_or-set_other (lane j i m l) (m * 8 + i) (k * 8 + o) (parts_of j m) nan (λ p. n (omega arith)) ∙ lane-other j i o m l k h q n

lanes_length : (F : ℕ → Jet) (m w : ℕ) (l : List Float) → length (lanes F m w l) ≡ length l
unfolding fold_to
lanes_length F m zero l = refl
lanes_length F m (suc w) l = lane_length (F w) w m (lanes F m w l) ∙ lanes_length F m w l

lanes_at : (F : ℕ → Jet) (m w : ℕ) (l : List Float) (k i : ℕ) → m * 8 ≤ length l → w ≤ 8 → k < m → i < w → at (lanes F m w l) (k * 8 + i) ≡ parts_of (F i) k
unfolding fold_to
lanes_at F m zero l k i s h q r = absurd (omega arith)
lanes_at F m (suc w) l k i s h q r =
    ⊎_elim
    (λ (p : i ≡ w). rw p (lane-at (F w) w m (lanes F m w l) k (omega arith) (omega (arith, lanes_length F m w l)) q))
    (λ (p : i < w). lane-other (F w) w i m (lanes F m w l) k (omega arith) (omega arith) (λ e. omega arith) ∙ lanes_at F m w l k i s (omega arith) q p)
    (eq-or-lt_of_le (omega arith))

-- the Jets of an array that was zeros before n lanes of F went there
module _ (F : ℕ → Jet) (m n : ℕ) (m3 : m ≤ 3) (n8 : n ≤ 8) {l : List Float} (e : l ≡ lanes F m (evened n) (replicate 24 0f)) where
  part_in : (k i : ℕ) → k < m → i < n → at l (k * 8 + i) ≡ parts_of (F i) k
  part_in k i q r = rw e (lanes_at F m (evened n) (replicate 24 0f) k i (omega (arith, length-replicate 24 0f)) (omega arith) q (omega arith))

  first_in : (i : ℕ) → 0 < m → i < n → at l i ≡ (F i).v
  unfolding parts_of
  first_in i q r = let z : i ≡ 0 * 8 + i = omega arith in ap (at l) z ∙ part_in 0 i q r

  pub two_in_lem : (i : ℕ) → 1 < m → i < n → two_in l i ≡ first_two (F i)
  unfolding parts_of
  two_in_lem i q r = two_is (first_in i (omega arith) r) (part_in 1 i q r)

  pub jet_in_lem : (i : ℕ) → 2 < m → i < n → jet_in l i ≡ F i
  unfolding jet_in parts_of
  jet_in_lem i q r = jet_is (F i) (first_in i (omega arith) r) (part_in 1 i (omega arith) r) (part_in 2 i q r)

-- ---- more lanes
lanes_more : (F : ℕ → Jet) (m i w : ℕ) (old : List Float) → lanes_from F m i w (lanes F m i old) ≡ lanes F m (i + w) old
unfolding fold_to
lanes_more F m i zero old = let z : i + 0 ≡ i = omega arith in rw z
lanes_more F m i (suc w) old =
    let z : i + suc w ≡ suc (i + w) = omega arith in
    rw (z, lanes_more F m i w old)

pub lanes_turn : (F : ℕ → Jet) (m i w : ℕ) (old : List Float) {l l' : List Float} → l' ≡ lanes_from F m i w l → l ≡ lanes F m i old → l' ≡ lanes F m (i + w) old
lanes_turn F m i w old p q = p ∙ ap (lanes_from F m i w) q ∙ lanes_more F m i w old

pub lanes_done : (F : ℕ → Jet) (m k n : ℕ) (old : List Float) {l : List Float} → k ≡ n → l ≡ lanes F m k old → l ≡ lanes F m n old
lanes_done F m k n old e p = p ∙ ap (λ w. lanes F m w old) e

-- ---- an odd count
fill-past : (f : ℕ → Float) (n k : ℕ) (l : List Float) → n ≤ k → at (fill f n l) k ≡ at l k
unfolding fill
fill-past f zero k l h = refl
fill-past f (suc n) k l h = get_or-set_other (fill f n l) n k (f n) nan (omega arith) ∙ fill-past f n k l (omega arith)

module _ (f : ℕ → Float) (n : ℕ) (n8 : n ≤ 8) {l l' : List Float} (p : l ≡ fill f (evened n) zeros8) (c : Cleared n l l') where
  pub cleared : l' ≡ fill f n zeros8
  unfolding fill
  cleared = ⊎_elim (λ (h : 0 ≡ n % 2). was_even (sym h)) (λ (h : 0 < n % 2). was_odd (omega arith)) (eq-or-lt_of_le (omega arith))
    where
      was_even : n % 2 ≡ 0 → l' ≡ fill f n zeros8
      was_even h = let e : evened n ≡ n = omega arith in c.even h ∙ p ∙ ap (λ w. fill f w zeros8) e

      zero_there : n % 2 ≡ 1 → at (fill f n zeros8) n ≡ 0f
      zero_there h = fill-past f n n zeros8 (omega arith) ∙ get_or-replicate 8 n 0f nan (omega arith)

      was_odd : n % 2 ≡ 1 → l' ≡ fill f n zeros8
      was_odd h =
          let e : evened n ≡ suc n = omega arith in
          c.odd h ∙ ap (λ a. set a n 0f) (p ∙ ap (λ w. fill f w zeros8) e) ∙ set-set (fill f n zeros8) n (f n) 0f
          ∙ ap (λ v. set (fill f n zeros8) n v) (sym (zero_there h)) ∙ set-get_or (fill f n zeros8) n nan

pub gammas_cleared : (L : ℕ → Jet) (n : ℕ) {lg lg' sl sl' : List Float} → n ≤ 8 → GammasTo L (evened n) zeros8 zeros8 lg sl → Cleared n lg lg' → Cleared n sl sl'
    → GammasTo L n zeros8 zeros8 lg' sl'
gammas_cleared L n n8 g v d = record { values = cleared (λ k. (L k).v) n n8 g.values v; slopes = cleared (λ k. (L k).d) n n8 g.slopes d }
