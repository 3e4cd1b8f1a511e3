-- What stands in the lanes of n solvents' pairs, and that their cells are those of the parameters. Assumes nothing.
use Prim.Native.Nat.{ℕ, zero, suc, ◌+◌, ◌*◌, ◌%◌, ◌<◌, ◌≤◌}
use mathlib.Core.Path.{◌≡◌, refl, ◌∙◌, ap}
use mathlib.Core.Bool.{Bool}
use mathlib.Core.Logic.{⊎_elim}
use mathlib.Core.List.{List}
use native.Mathlib.Nat.{eq-or-lt_of_le}
use native.Mathlib.Numerals.{add-one}
use native.Mathlib.Omega.{arith}
use borrow.Author.Tests.{eq-eqb, ne_eqb, leb-true}
use lib.Dec.{leb}
use lib.ListN.{length, set, get_or, replicate, length-set, length-replicate}
use lib.Seq.{get_or-set_same, get_or-set_other}
use lib.Ieee.{Float}
use Rattle.floats.specs.Fold.{fold_to, all_to}
use Rattle.floats.specs.Vector.{at}
use Rattle.floats.proofs.Folds.{fold_turn, all_at}
use Rattle.jet.specs.declared.Jet.{Jet}
use Rattle.jet.specs.declared.Two.{Two}
use Rattle.jet.specs.declared.Lane.{Lane}
use Rattle.jet.specs.Jets.{exp_with, exp_j}
use Rattle.jet.specs.Planes.{Holds, spread, six}
use Rattle.jet.specs.Lanes.{two_of, first_of, second_of, raised_two, lane_of, lane_in, raised_lane, triangle, laid_border, laid, no_lane, raised_to, Makes, AllLie, cell_in, Lists}
use Rattle.jet.proofs.Planes.{spread_cong}

-- ---- places of pairs
pub triangle_next : (n : ℕ) → triangle (n + 1) ≡ triangle n + n
unfolding triangle
triangle_next n = rw add-one

triangle_suc : (n : ℕ) → triangle (suc n) ≡ triangle n + n
unfolding triangle
triangle_suc n = refl

pub triangle-below : (i n : ℕ) → i < n → triangle i + i ≤ triangle n
unfolding triangle
triangle-below i zero h = absurd (omega arith)
triangle-below i (suc n) h =
    ⊎_elim
    (λ (e : i ≡ n). rw e (omega arith))
    (λ (l : i < n). omega (arith, triangle-below i n l))
    (eq-or-lt_of_le (omega arith))

module _ (most : ℕ) where
  small : ℕ → Bool
  small n = leb (triangle n) most

pub triangle_two : (n : ℕ) → n ≤ 2 → triangle n ≤ 1
unfolding all_to triangle small
triangle_two n a = leb-true (triangle n) 1 (all_at (small 1) 3 n (omega arith) refl)

pub triangle_four : (n : ℕ) → n ≤ 4 → triangle n ≤ 6
unfolding all_to triangle small
triangle_four n a = leb-true (triangle n) 6 (all_at (small 6) 5 n (omega arith) refl)

pub triangle_eight : (n : ℕ) → n ≤ 8 → triangle n ≤ 28
unfolding all_to triangle small
triangle_eight n a = leb-true (triangle n) 28 (all_at (small 28) 9 n (omega arith) refl)

-- ---- lanes laid
module _ (F : ℕ → ℕ → Lane) where
  border_length : (i q r : ℕ) (l : List Lane) → length (laid_border F i q r l) ≡ length l
  unfolding fold_to
  border_length i q zero l = refl
  border_length i q (suc r) l = length-set (laid_border F i q r l) (q + r) (F r i) ∙ border_length i q r l

  border_at : (i q r : ℕ) (l : List Lane) (j : ℕ) → j < r → q + r ≤ length l → get_or (laid_border F i q r l) (q + j) no_lane ≡ F j i
  unfolding fold_to
  border_at i q zero l j h s = absurd (omega arith)
  border_at i q (suc r) l j h s =
      ⊎_elim
      (λ (e : j ≡ r). rw e (get_or-set_same (laid_border F i q r l) (q + r) (F r i) no_lane (omega (arith, border_length i q r l))))
      (λ (p : j < r). get_or-set_other (laid_border F i q r l) (q + r) (q + j) (F r i) no_lane (omega arith) ∙ border_at i q r l j p (omega arith))
      (eq-or-lt_of_le (omega arith))

  border-before : (i q r : ℕ) (l : List Lane) (k : ℕ) → k < q → get_or (laid_border F i q r l) k no_lane ≡ get_or l k no_lane
  unfolding fold_to
  border-before i q zero l k h = refl
  border-before i q (suc r) l k h = get_or-set_other (laid_border F i q r l) (q + r) k (F r i) no_lane (omega arith) ∙ border-before i q r l k h

  laid_length : (n : ℕ) (l : List Lane) → length (laid F n l) ≡ length l
  unfolding fold_to
  laid_length zero l = refl
  laid_length (suc n) l = border_length n (triangle n) n (laid F n l) ∙ laid_length n l

  laid_at : (n : ℕ) (l : List Lane) (i j : ℕ) → i < n → j < i → triangle n ≤ length l → get_or (laid F n l) (triangle i + j) no_lane ≡ F j i
  unfolding fold_to
  laid_at zero l i j h q s = absurd (omega arith)
  laid_at (suc n) l i j h q s =
      let next : triangle (suc n) ≡ triangle n + n = triangle_suc n in
      ⊎_elim
      (λ (e : i ≡ n). rw e (border_at n (triangle n) n (laid F n l) j (omega arith) (omega (arith, laid_length n l))))
      (λ (p : i < n). border-before n (triangle n) n (laid F n l) (triangle i + j) (omega (arith, triangle-below i n p)) ∙ laid_at n l i j p q (omega arith))
      (eq-or-lt_of_le (omega arith))

-- ---- their exponentials
raised_length : (n : ℕ) (l : List Lane) → length (raised_to n l) ≡ length l
unfolding fold_to
raised_length zero l = refl
raised_length (suc n) l = length-set (raised_to n l) n (raised_lane (get_or (raised_to n l) n no_lane)) ∙ raised_length n l

raised-past : (n : ℕ) (l : List Lane) (k : ℕ) → n ≤ k → get_or (raised_to n l) k no_lane ≡ get_or l k no_lane
unfolding fold_to
raised-past zero l k h = refl
raised-past (suc n) l k h = get_or-set_other (raised_to n l) n k (raised_lane (get_or (raised_to n l) n no_lane)) no_lane (omega arith) ∙ raised-past n l k (omega arith)

raised_at : (n : ℕ) (l : List Lane) (k : ℕ) → k < n → n ≤ length l → get_or (raised_to n l) k no_lane ≡ raised_lane (get_or l k no_lane)
unfolding fold_to
raised_at zero l k h s = absurd (omega arith)
raised_at (suc n) l k h s =
    ⊎_elim
    (λ (e : k ≡ n). rw e (get_or-set_same (raised_to n l) n (raised_lane (get_or (raised_to n l) n no_lane)) no_lane (omega (arith, raised_length n l))
    ∙ ap raised_lane (raised-past n l n (omega arith))))
    (λ (p : k < n). get_or-set_other (raised_to n l) n k (raised_lane (get_or (raised_to n l) n no_lane)) no_lane (omega arith) ∙ raised_at n l k p (omega arith))
    (eq-or-lt_of_le (omega arith))

pub raise_turn : (k : ℕ) (old : List Lane) {s : List Lane} {t : Two} → t ≡ raised_two (get_or s k no_lane).exponent → s ≡ raised_to k old
    → set s k (record { beside = (get_or s k no_lane).beside; exponent = t }) ≡ raised_to (k + 1) old
unfolding raised_lane
raise_turn k old {s} e h = fold_turn (λ k (l : List Lane). set l k (raised_lane (get_or l k no_lane))) old k (rw e refl) h

-- ---- cells of a lane
module _ (m : Jet → Jet → ℕ → Float) (f : ℕ → ℕ → ℕ → Float) (j i : ℕ) (lane : Lane) (h : Makes m lane f j i) (M : ℕ) (l : List Float) where
  pub made_first : (c : List Float) {x y v : Jet} (e : ℕ) → x ≡ first_of lane.beside → v ≡ first_of lane.exponent → y ≡ exp_with v.v v → Holds (m x y) M c
      → spread (at c) e M l ≡ spread (f j i) e M l
  unfolding first_of
  made_first c {x} {y} e p q r s =
      let same : m x y ≡ f j i = rw (r, q, p) h.first in
      spread_cong e M l (λ k t. s k t ∙ ap (λ (g : ℕ → Float). g k) same)

  pub made_second : (c : List Float) {x y v : Jet} (e : ℕ) → x ≡ second_of lane.beside → v ≡ second_of lane.exponent → y ≡ exp_with v.v v → Holds (m x y) M c
      → spread (at c) e M l ≡ spread (f i j) e M l
  unfolding second_of
  made_second c {x} {y} e p q r s =
      let same : m x y ≡ f i j = rw (r, q, p) h.second in
      spread_cong e M l (λ k t. s k t ∙ ap (λ (g : ℕ → Float). g k) same)

-- ---- all lanes
pub room : (K : ℕ) (x : Lane) (n : ℕ) → triangle n ≤ K → triangle n ≤ length (replicate K x)
room K x n h = rw (length-replicate K x) h

module _ (B E : List Float → Jet) (m : Jet → Jet → ℕ → Float) (cells : List Float → ℕ → Float) (own : ℕ → Float) (S : ℕ → ℕ → List Float)
    (law : (p : List Float) → m (B p) (exp_j (E p)) ≡ cells p) where
  makes-raised : (j i : ℕ) {r : Lane} → j < i → r ≡ raised_lane (lane_in B E S j i) → Makes m r (cell_in cells own S) j i
  unfolding raised_lane lane_of two_of raised_two first_of second_of cell_in exp_with
  makes-raised j i h e =
      record {
        first = rw (e, ne_eqb j i (λ p. omega arith)) (law (S j i));
        second = rw (e, ne_eqb i j (λ p. omega arith)) (law (S i j));
      }

  own-cell : (i : ℕ) → own ≡ cell_in cells own S i i
  unfolding cell_in
  own-cell i = rw (eq-eqb i i refl)

  pub all_lie : (n count : ℕ) (l₀ : List Lane) {l₁ l₂ : List Lane} → triangle n ≤ length l₀ → count ≡ triangle n → l₁ ≡ laid (lane_in B E S) n l₀ → l₂ ≡ raised_to count l₁
      → AllLie m own l₂ (cell_in cells own S) n
  all_lie n count l₀ {l₁} {l₂} s c p q =
      record {
        pairs = λ i a j b.
            let below : triangle i + j < count = omega (arith, triangle-below i n a) in
            let long : count ≤ length l₁ = omega (arith, ap length p ∙ laid_length (lane_in B E S) n l₀) in
            makes-raised j i b
            (ap (λ l. get_or l (triangle i + j) no_lane) q ∙ raised_at count l₁ (triangle i + j) below long
            ∙ ap raised_lane (ap (λ l. get_or l (triangle i + j) no_lane) p ∙ laid_at (lane_in B E S) n l₀ i j a b s));
        diagonal = λ i a. own-cell i;
      }

-- ---- parameters in a flat plane
pub plane_lists : (P : List Float) {m : ℕ} → m ≤ 8 → Lists (λ i j. six P (i % 8 * 8 + j % 8)) m P
plane_lists P a i j h l n =
    let x : i % 8 ≡ i = omega arith in
    let y : j % 8 ≡ j = omega arith in
    rw (x, y)
