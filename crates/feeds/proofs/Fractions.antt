-- The shares of numbers, as of mass fractions over molar masses: f64s that pass 15, 16 and 18, and that their bits give back. Assumes nothing.
use Prim.Native.Nat.{ℕ, zero, suc, compare, ◌+◌, ◌-◌, ◌*◌, ◌/◌, ◌%◌, ◌^◌, ◌<◌, ◌≤◌}
use mathlib.Core.Path.{◌≡◌, refl, sym, ap, ◌∙◌}
use mathlib.Core.Bool.{Bool, true, false, cond, not, true≢false}
use mathlib.Core.List.{List}
use native.Mathlib.Nat.{zero-lt-suc, zero-mul, mul-pos}
use native.Mathlib.Omega.{arith}
use borrow.Author.Tests.{lt-ltb, le-ltb, ne_eqb}
use lib.Dec.{T, ltb}
use lib.IntN.{ℤ, pos}
use lib.Count.{count_trailing_zeros}
use lib.Ieee.{Float, nan, inf, fin, binary64, up, down, minus, add, div, lt, fits, size, nearest, odd, units, round, of_bits}
use lib.Ieee.Fits.{up_pos, down_pos, and_l, and_r, div-fits}
use lib.Ieee.Bits.{is_true, of_bits-to_bits}
use Rattle.floats.specs.Arithmetic.{◌⊕◌, ◌⊖◌, ◌⊘◌, 0f, 1f}
use Rattle.floats.specs.Small.{is_finite, positive, abs_of, bits_of, float_of}
use Rattle.floats.specs.Fold.{fold_to, sum_to, all_to}
use Rattle.floats.specs.Vector.{at, vec, zeros8}
use Rattle.floats.specs.Outcome.{ok}
use Rattle.floats.proofs.Folds.{all_at, all_cong, sum_cong}
use Rattle.floats.proofs.Fills.{fill_cong, vec-at}
use Rattle.floats.proofs.Outcomes.{need_inv}
use Rattle.thermo_types.specs.Composition.{sum_tolerance, all_finite, none_negative, sums_to_one, shares_of, normalize_of}
use Rattle.shares.specs.Shares.{share_of}
use Rattle.shares.proofs.Quotients.{zero_round}
use Rattle.shares.proofs.Theorem.{all_of, shares_pass}

-- ---- a finite sum has finite terms
add_finite : (x y : Float) → is_finite (x ⊕ y) ≡ true → (is_finite x ≡ true) × (is_finite y ≡ true)
unfolding is_finite add
add_finite nan y h = absurd (true≢false (sym h))
add_finite (inf s) nan h = absurd (true≢false (sym h))
add_finite (inf true) (inf true) h = absurd (true≢false (sym h))
add_finite (inf true) (inf false) h = absurd (true≢false (sym h))
add_finite (inf false) (inf true) h = absurd (true≢false (sym h))
add_finite (inf false) (inf false) h = absurd (true≢false (sym h))
add_finite (inf s) (fin t n d) h = absurd (true≢false (sym h))
add_finite (fin s m e) nan h = absurd (true≢false (sym h))
add_finite (fin s m e) (inf t) h = absurd (true≢false (sym h))
add_finite (fin s m e) (fin t n d) h = (refl, refl)

terms_finite : (f : ℕ → Float) (n : ℕ) → is_finite (sum_to f n) ≡ true → all_finite f n ≡ true
unfolding fold_to all_to
terms_finite f zero h = refl
terms_finite f (suc n) h = let p = add_finite (sum_to f n) (f n) h in rw (terms_finite f n p.0, p.1)

-- ---- a quotient of what is not negative by what is positive is not negative
abbrev Plus : Float → Type 0
Plus x = not (lt x 0f) ≡ true

fin_plus : (m : ℕ) (e : ℤ) → Plus (fin false m e)
unfolding lt of_bits
fin_plus m e = rw (le-ltb (m * up e * 1) (0 * down e) (omega arith))

inf_plus : Plus (inf false)
unfolding lt of_bits
inf_plus = refl

either : (b : Bool) (x y : Float) → Plus x → Plus y → Plus (cond b x y)
either true x y p q = p
either false x y p q = q

odd-plus : (d q k l : ℕ) → Plus (odd d false q k l)
unfolding odd
odd-plus d zero k l = fin_plus 0 (pos 0)
odd-plus d (suc q) k l = let t = count_trailing_zeros d (suc q) in fin_plus (suc q / 2 ^ t) (minus (k + t) l)

round_plus : (a b : ℕ) → Plus (round binary64 false a b)
unfolding round units
round_plus a b =
    let n = a * 2 ^ 1074 in
    let k = size (n / b) - 53 in
    let u = b * 2 ^ k in
    let q = nearest (n / u) (compare (n % u * 2) u) in
    either (ltb (q * 2 ^ k) (2 ^ 2098)) (odd 54 false q k 1074) (inf false) (odd-plus 54 q k 1074) inf_plus

zero_plus : (c : ℕ) → 0 < c → Plus (round binary64 true 0 c)
unfolding lt of_bits
zero_plus c p = rw (zero_round c p)

negative : (m : ℕ) (e : ℤ) → lt (fin true (suc m) e) 0f ≡ true
unfolding lt of_bits
negative m e = let p = mul-pos (zero-lt-suc m) (up_pos e) in lt-ltb 0 (suc m * up e * 1 + 0 * down e) (omega arith)

over : (x : Float) (b : ℕ) (d : ℤ) → Plus x → Plus (x ⊘ fin false (suc b) d)
unfolding div lt of_bits
over nan b d h = refl
over (inf true) b d h = absurd (true≢false (sym h))
over (inf false) b d h = inf_plus
over (fin false a e) b d h = rw (ne_eqb (suc b) 0 (λ z. omega arith)) (round_plus (a * up e * down d) (suc b * up d * down e))
over (fin true zero e) b d h =
    let p = mul-pos (mul-pos (zero-lt-suc b) (up_pos d)) (down_pos e) in
    rw (ne_eqb (suc b) 0 (λ z. omega arith), zero-mul (up e), zero-mul (down d)) (zero_plus (suc b * up d * down e) p)
over (fin true (suc a) e) b d h = absurd (true≢false (sym h ∙ ap not (negative a e)))

quotient_plus : (x m : Float) → Plus x → positive m ≡ true → Plus (x ⊘ m)
unfolding positive is_finite lt of_bits
quotient_plus x nan h p = absurd (true≢false (sym p))
quotient_plus x (inf s) h p = absurd (true≢false (sym p))
quotient_plus x (fin true b d) h p = absurd (true≢false (sym p))
quotient_plus x (fin false zero d) h p = absurd (true≢false (sym p ∙ le-ltb (0 * down d) (0 * up d * 1) (omega arith)))
quotient_plus x (fin false (suc b) d) h p = over x b d h

-- ---- z, the shares of the f i
module _ (f : ℕ → Float) (n : ℕ) (l : n ≤ 8) (z : List Float) (e : normalize_of f n ≡ ok z) where
  normal : (positive (sum_to f n) ≡ true) × (z ≡ shares_of f n)
  unfolding normalize_of
  normal =
      let q = need_inv (positive (sum_to f n)) 34 (ok (shares_of f n)) e in
      let s : shares_of f n ≡ z = cc in
      (is_true (positive (sum_to f n)) q.0, sym s)

  pub share-at : (i : ℕ) → i < n → at z i ≡ share_of f n i
  unfolding shares_of
  share-at i k = rw normal.1 (vec-at (share_of f n) n i l k)

  pub fractions_pass : ((i : ℕ) → T (fits binary64 (f i))) → none_negative f n ≡ true
      → (all_finite (at z) n ≡ true) × (none_negative (at z) n ≡ true) × (sums_to_one (at z) n ≡ true)
  unfolding positive sums_to_one
  fractions_pass h b =
      let a = normal.0 in
      let c : is_finite (sum_to f n) ≡ true = is_true _ (and_l (is_finite (sum_to f n)) (lt 0f (sum_to f n)) (rw a tt)) in
      let d : lt 0f (sum_to f n) ≡ true = is_true _ (and_r (is_finite (sum_to f n)) (lt 0f (sum_to f n)) (rw a tt)) in
      let s = shares_pass f n (omega arith) (λ i k. h i) (terms_finite f n c) b c d in (
        all_cong n (λ i k. ap is_finite (share-at i k)) ∙ s.0,
        all_cong n (λ i k. ap (λ (v : Float). not (lt v 0f)) (share-at i k)) ∙ s.1,
        ap (λ (v : Float). not (lt sum_tolerance (abs_of (v ⊖ 1f)))) (sum_cong 0f n share-at) ∙ s.2,
      )

  -- words with the bits of the z i
  pub fractions-read : (w : ℕ → ℕ) → ((i : ℕ) → i < n → w i ≡ bits_of (at z i)) → vec (λ i. float_of (w i)) n ≡ z
  unfolding shares_of
  fractions-read w h =
      fill_cong _ (share_of f n) n zeros8 (λ i k.
      ap float_of (h i k ∙ ap bits_of (share-at i k)) ∙ of_bits-to_bits binary64 (share_of f n i) (div-fits binary64 (f i) (sum_to f n)))
      ∙ sym normal.1

-- ---- of the x i over the m i
pub moles_pass : (x m : ℕ → Float) (n : ℕ) → n ≤ 8 → (z : List Float) → normalize_of (λ i. x i ⊘ m i) n ≡ ok z
    → none_negative x n ≡ true → all_to (λ i. positive (m i)) n ≡ true
    → (all_finite (at z) n ≡ true) × (none_negative (at z) n ≡ true) × (sums_to_one (at z) n ≡ true)
moles_pass x m n l z e h p =
    fractions_pass (λ i. x i ⊘ m i) n l z e (λ i. div-fits binary64 (x i) (m i))
    (all_of (λ i. not (lt (x i ⊘ m i) 0f)) n (λ i k.
    quotient_plus (x i) (m i) (all_at (λ i. not (lt (x i) 0f)) n i k h) (all_at (λ i. positive (m i)) n i k p)))
