-- ln of a normal float from the fields of its bit pattern. Assumes nothing.
use Rattle.std.proofs.Common.{◌≡◌, ℕ, zero, suc, ◌+◌, ◌-◌, ◌*◌, ◌/◌, ◌%◌, ◌^◌, ◌<◌, Bool, true, false, cond, not, ◌&&◌, T, ltb, pos, ◌+ℤ◌, sym, refl, ap, ◌∙◌, subst, ap₂, true≢false, mul-pos, zero-mul, arith, ltb→lt, ltb-true, le-ltb, lt-ltb, ne_eqb}
use lib.Ieee.{Float, nan, inf, fin, binary64, fits, up, down, of_bits, to_bits, lt, eq, is_nan, nan_bits, minus, odd}
use lib.Ieee.Bits.{of_bits-to_bits}
use lib.Ieee.Fits.{up_pos}
use lib.Ieee.Positive.{positive}
use Rattle.floats.specs.Arithmetic.{◌⊗◌, 0f, ½, 1f, ∞}
use Rattle.numerics.specs.Numerics.{whole, ln_from, ln_split, ln_of, mantissa, exponent, √2}
use Rattle.numerics.proofs.Patterns.{unit-is, unit-no_nan, plus, plus-is, field_lt, normal-is}
use Rattle.numerics.proofs.Splits.{minus_shift, minus_plus, mantissa-is, exponent-is}
use Rattle.numerics.proofs.Guess.{both}

-- k and m chosen, then one result
split_at : (b : Bool) (x : ℕ) (m : Float) → ln_from (whole (minus (cond b (x + 1) x) 1023)) (cond b (m ⊗ ½) m)
    ≡ cond b (ln_from (whole (minus x 1023 +ℤ pos 1)) (m ⊗ ½)) (ln_from (whole (minus x 1023)) m)
split_at true x m = ap (λ k. ln_from (whole k) (m ⊗ ½)) (sym (minus_plus x 1023 1))
split_at false x m = refl

pub split-made : (x : ℕ) (m : Float) {u : ℕ} {k h r : Float} → u ≡ cond (lt √2 m) (x + 1) x → k ≡ whole (minus u 1023) → h ≡ cond (lt √2 m) (m ⊗ ½) m → r ≡ ln_from k h
    → r ≡ ln_split (minus x 1023) m
unfolding ln_split
split-made x m pu pk ph pr = rw (pr, pk, pu, ph) (split_at (lt √2 m) x m)

pub digits-no_nan : (d : ℕ) → d < 4503599627370496 → nan_bits binary64 (d + 4607182418800017408) ≡ false
digits-no_nan d h =
    let e : d + 4503599627370496 + 4602678819172646912 ≡ d + 4607182418800017408 = omega arith in
    ap (nan_bits binary64) (sym e) ∙ unit-no_nan (d + 4503599627370496) (omega arith)

-- a normal positive float's exponent and mantissa are its fields'
module _ (b : ℕ) (p : T (positive (of_bits binary64 b))) (n : 0 < b / 4503599627370496) where
  is_odd : of_bits binary64 b ≡ odd 53 false (b % 4503599627370496 + 4503599627370496) (b / 4503599627370496 - 1) 1074
  is_odd = let l = field_lt b p in plus-is b (plus b p) ∙ normal-is (b / 4503599627370496) (b % 4503599627370496) n l

  pub normal-exponent : exponent (of_bits binary64 b) ≡ minus (b / 4503599627370496) 1023
  normal-exponent =
      let x = b / 4503599627370496 in
      let q = b % 4503599627370496 + 4503599627370496 in
      let e : x - 1 + 1 ≡ x = omega arith in
      ap exponent is_odd ∙ exponent-is q (x - 1) 0 (omega arith) (omega arith) (omega arith) (omega arith) ∙ sym (minus_shift (x - 1) 1022 1) ∙ ap (λ z. minus z 1023) e

  pub normal-mantissa : mantissa (of_bits binary64 b) ≡ of_bits binary64 (b % 4503599627370496 + 4607182418800017408)
  normal-mantissa =
      let x = b / 4503599627370496 in
      let q = b % 4503599627370496 + 4503599627370496 in
      let e : q * 2 ^ 0 ≡ q = omega arith in
      let f : q + 4602678819172646912 ≡ b % 4503599627370496 + 4607182418800017408 = omega arith in
      ap mantissa is_odd ∙ mantissa-is q (x - 1) 0 (omega arith) (omega arith) (omega arith) (omega arith) ∙ ap (λ z. odd 53 false z 1022 1074) e
      ∙ sym (unit-is q (omega arith) (omega arith)) ∙ ap (of_bits binary64) f

pub normal-split : (v : Float) (b : ℕ) {r : Float} → of_bits binary64 b ≡ v → T (positive v) → 0 < b / 4503599627370496
    → r ≡ ln_split (minus (b / 4503599627370496) 1023) (of_bits binary64 (b % 4503599627370496 + 4607182418800017408)) → r ≡ ln_split (exponent v) (mantissa v)
normal-split v b e p n q =
    let h : T (positive (of_bits binary64 b)) = subst (λ (z : Float). T (positive z)) (sym e) p in
    q ∙ ap₂ ln_split (sym (normal-exponent b h n) ∙ ap exponent e) (sym (normal-mantissa b h n) ∙ ap mantissa e)

-- ---- above zero and finite
above : (v : Float) → lt 0f v ≡ true → lt v ∞ ≡ true → T (positive v)
unfolding lt of_bits
above nan a b = absurd (true≢false (sym a))
above (inf true) a b = absurd (true≢false (sym a))
above (inf false) a b = absurd (true≢false (sym b))
above (fin true m e) a b = absurd (true≢false (sym a))
above (fin false m e) a b = let h = ltb-true (0 * down e) (m * up e * 1) a in pos_of m h
  where
    pos_of : (m : ℕ) → 0 * down e < m * up e * 1 → T (ltb 0 m)
    pos_of zero h = let z = zero-mul (up e) in omega arith
    pos_of (suc m) h = rw (lt-ltb 0 (suc m) (omega arith)) tt

kept_as : (a b : Bool) (v : Float) → (a ≡ true → b ≡ true → T (positive v)) → T (positive (cond (a && b) v 1f))
unfolding of_bits
kept_as true true v h = h refl refl
kept_as true false v h = tt
kept_as false b v h = tt

pub kept-positive : (v : Float) → T (positive (cond (lt 0f v && lt v ∞) v 1f))
kept-positive v = kept_as (lt 0f v) (lt v ∞) v (above v)

kept-fits : (a : Bool) (v : Float) → T (fits binary64 v) → T (fits binary64 (cond a v 1f))
unfolding of_bits fits
kept-fits true v h = h
kept-fits false v h = tt

pub no_nan_of : (v : Float) → T (positive v) → T (not (is_nan v))
unfolding is_nan
no_nan_of (fin s m e) p = tt
no_nan_of nan p = elim p [ ]
no_nan_of (inf _) p = elim p [ ]

-- none of the tests of `ln_of` holds
no_test : (v : Float) → T (positive v) → (is_nan v ≡ false) × (lt v 0f ≡ false) × (eq v 0f ≡ false) × (eq v ∞ ≡ false)
unfolding is_nan lt eq of_bits
no_test (fin false m e) p =
    let h = mul-pos (ltb→lt 0 m p) (up_pos e) in
    (refl, le-ltb (m * up e * 1) (0 * down e) (omega arith), rw (ne_eqb (m * up e * 1) (0 * down e) (λ q. omega arith)) refl, refl)
no_test nan p = elim p [ ]
no_test (inf _) p = elim p [ ]
no_test (fin true m e) p = elim p [ ]

pub positive-ln : (v : Float) → T (positive v) → ln_split (exponent v) (mantissa v) ≡ ln_of v
unfolding ln_of
positive-ln v p = let t = no_test v p in rw (t.0, t.1, t.2, t.3)

-- what `ln_near` returns, where it says ok
pub near-ln : (v w y : Float) → T (fits binary64 v) → w ≡ cond (lt 0f v && lt v ∞) v 1f
    → y ≡ ln_split (minus (to_bits binary64 w / 4503599627370496) 1023) (of_bits binary64 (to_bits binary64 w % 4503599627370496 + 4607182418800017408))
    → (lt 0f v && lt v ∞ && ltb 0 (to_bits binary64 w / 4503599627370496)) ≡ true → y ≡ ln_of v
near-ln v w y g pw py t =
    let x = both (lt 0f v && lt v ∞) (ltb 0 (to_bits binary64 w / 4503599627370496)) t in
    let e : w ≡ v = pw ∙ ap (λ (z : Bool). cond z v 1f) x.0 in
    let o = both (lt 0f v) (lt v ∞) x.0 in
    let p = above v o.0 o.1 in
    let back : of_bits binary64 (to_bits binary64 w) ≡ v = ap (λ z. of_bits binary64 (to_bits binary64 z)) e ∙ of_bits-to_bits binary64 v g in
    normal-split v (to_bits binary64 w) back p (ltb-true 0 (to_bits binary64 w / 4503599627370496) x.1) py ∙ positive-ln v p

pub near_field : (v w : Float) → T (fits binary64 v) → w ≡ cond (lt 0f v && lt v ∞) v 1f → to_bits binary64 w / 4503599627370496 < 2047
near_field v w g pw =
    let b : of_bits binary64 (to_bits binary64 w) ≡ w = of_bits-to_bits binary64 w (subst (λ (z : Float). T (fits binary64 z)) (sym pw) (kept-fits (lt 0f v && lt v ∞) v g)) in
    field_lt (to_bits binary64 w) (subst (λ (z : Float). T (positive z)) (sym b) (subst (λ (z : Float). T (positive z)) (sym pw) (kept-positive v)))
