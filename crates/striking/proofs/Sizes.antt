-- |x| is never negative, and the largest of such sizes passes over what is NaN or zero. Assumes nothing.
use mathlib.Core.Path.{◌≡◌, refl, sym, ap, ◌∙◌, subst}
use Prim.Native.Nat.{ℕ, zero, suc, ◌*◌, ◌<◌}
use native.Mathlib.Nat.{zero-mul, mul-pos, zero-lt-suc, lt_irrefl}
use mathlib.Core.Bool.{Bool, true, false, ◌||◌, cond, true≢false, false≢true}
use lib.IntN.{ℤ}
use lib.Dec.{T, ltb, eqb, leb-suc-zero, eqb→eq}
use lib.Ieee.{Float, nan, inf, fin, binary64, neg, add, sub, lt, le, eq, is_nan, of_bits, up, down}
use lib.Ieee.Fits.{and_l, up_pos}
use Rattle.floats.specs.Arithmetic.{◌⊖◌, 0f}
use Rattle.floats.specs.Small.{max_of, abs_of}
use Rattle.zeros.proofs.Congruence.{≈refl, ≈trans, same, lt_≈}
use Rattle.zeros.proofs.Zero.{Zero, zero_≈, zero_add≡, Clear, clear_add}
use Rattle.zeros.specs.Below.{◌⊑◌}
use Rattle.zeros.proofs.Numbers.{abs_≈}

-- ---- |x| is not negative
flat : (e : ℤ) → 0 * 1 * down e ≡ 0
flat e = ap (λ (a : ℕ). a * down e) (zero-mul 1) ∙ zero-mul (down e)

clear_sign : (x : Float) → Clear x → lt x 0f ≡ false
unfolding lt of_bits
clear_sign nan h = absurd h
clear_sign (inf true) h = absurd h
clear_sign (inf false) h = refl
clear_sign (fin true m e) h = absurd h
clear_sign (fin false m e) h = ap (λ (b : ℕ). ltb (m * up e * 1) b) (flat e) ∙ leb-suc-zero (m * up e * 1)

zero_sign : (x : Float) → Zero x → lt x 0f ≡ false
unfolding of_bits
zero_sign x h = lt_≈ (zero_≈ x 0f h tt) (≈refl 0f) ∙ (unfold lt in refl)

-- a positive number is no zero
not_level : (m : ℕ) (e : ℤ) → eq (fin false (suc m) e) 0f ≡ true → ⊥
unfolding eq of_bits
not_level m e h = lt_irrefl 0 (subst (λ (a : ℕ). 0 < a) (tie ∙ flat e) (mul-pos (mul-pos (zero-lt-suc m) (up_pos e)) (zero-lt-suc 0)))
  where
    tie : suc m * up e * 1 ≡ 0 * 1 * down e
    tie = eqb→eq (suc m * up e * 1) (0 * 1 * down e) (and_l (eqb (suc m * up e * 1) (0 * 1 * down e)) (true || eqb (suc m * up e * 1) 0) (subst T (sym h) tt))

or_left : (a b : Bool) → (a || b) ≡ false → a ≡ false
or_left true b e = e
or_left false b e = refl

or_right : (a b : Bool) → a ≡ false → (a || b) ≡ true → b ≡ true
or_right true b e f = absurd (true≢false e)
or_right false b e f = f

minus_sign : (x : Float) → le x 0f ≡ true → lt (0f ⊖ x) 0f ≡ false
unfolding le sub neg of_bits
minus_sign nan h = unfold lt add in refl
minus_sign (inf true) h = unfold lt add in refl
minus_sign (inf false) h = absurd (false≢true (unfold lt eq in h))
minus_sign (fin true m e) h = clear_sign (add binary64 0f (fin false m e)) (clear_add binary64 0f (fin false m e) tt tt)
minus_sign (fin false zero e) h = zero_sign (add binary64 0f (fin true 0 e)) (zero_add≡ binary64 0f (fin true 0 e) tt tt)
minus_sign (fin false (suc m) e) h = absurd (not_level m e (or_right (lt (fin false (suc m) e) 0f) (eq (fin false (suc m) e) 0f) (clear_sign (fin false (suc m) e) tt) h))

pub abs-sign : (x : Float) → lt (abs_of x) 0f ≡ false
abs-sign x = go (le x 0f) refl
  where
    go : (b : Bool) → le x 0f ≡ b → lt (cond b (0f ⊖ x) x) 0f ≡ false
    go true e = minus_sign x e
    go false e = or_left (lt x 0f) (eq x 0f) (unfold le in e)

-- ---- the largest so far: no NaN and not negative
pub record Size (a : Float) : Type 0 where
  pub number : is_nan a ≡ false
  pub sign : lt a 0f ≡ false

pub size_zero : Size 0f
unfolding of_bits
size_zero = record { number = unfold is_nan in refl; sign = unfold lt in refl }

lt_nan : (a : Float) → lt a nan ≡ false
unfolding lt
lt_nan nan = refl
lt_nan (inf s) = refl
lt_nan (fin s m e) = refl

lt_number : (a w : Float) → lt a w ≡ true → is_nan w ≡ false
unfolding is_nan
lt_number a nan h = absurd (true≢false (sym h ∙ lt_nan a))
lt_number a (inf s) h = refl
lt_number a (fin s m e) h = refl

pub size-max : (a v : Float) → Size a → Size (max_of a (abs_of v))
size-max a v h = subst (λ (b : Bool). Size (cond b (abs_of v) (cond (lt a (abs_of v)) (abs_of v) a))) (sym h.number) (go (lt a (abs_of v)) refl)
  where
    go : (b : Bool) → lt a (abs_of v) ≡ b → Size (cond b (abs_of v) a)
    go true e = record { number = lt_number a (abs_of v) e; sign = abs-sign v }
    go false e = h

-- a term that is NaN or zero changes nothing
pub max-gone : (a t : Float) → Size a → t ⊑ 0f → max_of a t ≡ a
max-gone a t h p = ap (λ (b : Bool). cond b t (cond (lt a t) t a)) h.number ∙ ap (λ (b : Bool). cond b t a) (less t p)
  where
    less : (t : Float) → t ⊑ 0f → lt a t ≡ false
    less nan p = lt_nan a
    less (inf s) p = lt_≈ (≈refl a) (p.at tt) ∙ h.sign
    less (fin s m e) p = lt_≈ (≈refl a) (p.at tt) ∙ h.sign

abs_zero : abs_of 0f ≡ 0f
unfolding le lt eq sub neg add of_bits
abs_zero = refl

pub gone-abs : (t : Float) → t ⊑ 0f → abs_of t ⊑ 0f
gone-abs nan p = unfold le lt eq in p
gone-abs (inf s) p = record { at = λ h. ≈trans (abs_≈ (p.at tt)) (same abs_zero) }
gone-abs (fin s m e) p = record { at = λ h. ≈trans (abs_≈ (p.at tt)) (same abs_zero) }
