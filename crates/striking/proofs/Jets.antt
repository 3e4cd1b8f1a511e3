-- ⊑ on jets, part by part, and sums of jets struck. Assumes nothing.
use mathlib.Core.Path.{◌≡◌, refl, sym, ap, subst}
use Prim.Native.Nat.{ℕ, zero, suc, ◌<◌}
use mathlib.Core.Bool.{Bool, not}
use lib.Dec.{T}
use lib.Ieee.{Float, binary64, of_bits, fits}
use Rattle.floats.specs.Arithmetic.{◌⊕◌, 0f, 2f}
use Rattle.floats.specs.Fold.{fold_to, sum_from}
use Rattle.jet.specs.declared.Jet.{Jet}
use Rattle.jet.specs.Jets.{const_j, add_j, sub_j, neg_j, mul_j, scale_j, div_j, ln_with, ln_j, sum_jet_from, sum_jet_to}
use Rattle.zeros.specs.Below.{◌⊑◌, ◌⊑!◌}
use Rattle.zeros.proofs.Numbers.{sum_fits}
use Rattle.zeros.proofs.Below.{⊑_refl, ⊑_weaken, ⊑_add, ⊑_neg, ⊑_sub, ⊑_mul, ⊑_div, ⊑_ln, gone-add, gone-sub, gone-mul-l, gone-mul-r, gone-div}
use Rattle.striking.specs.Places.{cnt}
use Rattle.striking.proofs.Strike.{strike_from, strike_sum}

abbrev pub zero_j : Jet
zero_j = const_j 0f

-- ---- ⊑ on jets
infix 50 ◌⊑J◌
infix 50 ◌⊑D◌
pub record ◌⊑J◌ (a b : Jet) : Type 0 where
  pub v : a.v ⊑ b.v
  pub d : a.d ⊑ b.d
  pub dd : a.dd ⊑ b.dd

-- a divisor's: its value is one value
pub record ◌⊑D◌ (a b : Jet) : Type 0 where
  pub v : a.v ⊑! b.v
  pub d : a.d ⊑ b.d
  pub dd : a.dd ⊑ b.dd

pub J_refl : (a : Jet) → a ⊑J a
J_refl a = record { v = ⊑_refl a.v; d = ⊑_refl a.d; dd = ⊑_refl a.dd }

pub J-same : {a b : Jet} → a ≡ b → a ⊑J b
J-same {a} {b} p = subst (λ (x : Jet). a ⊑J x) p (J_refl a)

pub J_of_D : {a b : Jet} → a ⊑D b → a ⊑J b
J_of_D p = record { v = ⊑_weaken p.v; d = p.d; dd = p.dd }

pub J-sub : {a a' b b' : Jet} → a ⊑J a' → b ⊑J b' → sub_j a b ⊑J sub_j a' b'
unfolding sub_j
J-sub p q = record { v = ⊑_sub p.v q.v; d = ⊑_sub p.d q.d; dd = ⊑_sub p.dd q.dd }

pub J-neg : {a a' : Jet} → a ⊑J a' → neg_j a ⊑J neg_j a'
unfolding neg_j
J-neg p = record { v = ⊑_neg p.v; d = ⊑_neg p.d; dd = ⊑_neg p.dd }

pub J-scale : {a a' : Jet} {x x' : Float} → a ⊑J a' → x ⊑ x' → scale_j a x ⊑J scale_j a' x'
unfolding scale_j
J-scale p q = record { v = ⊑_mul p.v q; d = ⊑_mul p.d q; dd = ⊑_mul p.dd q }

pub J-mul : {a a' b b' : Jet} → a ⊑J a' → b ⊑J b' → mul_j a b ⊑J mul_j a' b'
unfolding mul_j
J-mul p q = record {
  v = ⊑_mul p.v q.v;
  d = ⊑_add (⊑_mul p.d q.v) (⊑_mul p.v q.d);
  dd = ⊑_add (⊑_add (⊑_mul p.dd q.v) (⊑_mul (⊑_mul (⊑_refl 2f) p.d) q.d)) (⊑_mul p.v q.dd);
}

pub J-div : {a a' b b' : Jet} → a ⊑J a' → b ⊑D b' → div_j a b ⊑J div_j a' b'
unfolding div_j
J-div p q =
    let u = ⊑_div p.v q.v in
    let r = ⊑_div (⊑_sub p.d (⊑_mul u q.d)) q.v in
    record { v = u; d = r; dd = ⊑_div (⊑_sub (⊑_sub p.dd (⊑_mul (⊑_mul (⊑_refl 2f) r) q.d)) (⊑_mul u q.dd)) q.v }

pub J-ln : {a a' : Jet} → a ⊑D a' → ln_j a ⊑J ln_j a'
unfolding ln_with
J-ln p = record {
  v = ⊑_ln (⊑_weaken p.v);
  d = ⊑_div p.d p.v;
  dd = ⊑_div (⊑_sub p.dd (⊑_div (⊑_mul p.d p.d) p.v)) p.v;
}

-- ---- jets that are NaN or zero, part by part
pub J-gone-scale : (a : Jet) (x : Float) → x ⊑ 0f → scale_j a x ⊑J zero_j
unfolding scale_j const_j of_bits
J-gone-scale a x h = record { v = gone-mul-r a.v h; d = gone-mul-r a.d h; dd = gone-mul-r a.dd h }

pub J-gone-div : {a : Jet} (b : Jet) → a ⊑J zero_j → div_j a b ⊑J zero_j
unfolding div_j const_j of_bits
J-gone-div b p =
    let u = gone-div b.v p.v in
    let r = gone-div b.v (gone-sub p.d (gone-mul-l b.d u)) in
    record { v = u; d = r; dd = gone-div b.v (gone-sub (gone-sub p.dd (gone-mul-l b.d (gone-mul-r 2f r))) (gone-mul-l b.dd u)) }

pub J-gone-mul : {a : Jet} (b : Jet) → a ⊑J zero_j → mul_j a b ⊑J zero_j
unfolding mul_j const_j of_bits
J-gone-mul b p = record {
  v = gone-mul-l b.v p.v;
  d = gone-add (gone-mul-l b.v p.d) (gone-mul-l b.d p.v);
  dd = gone-add (gone-add (gone-mul-l b.v p.dd) (gone-mul-l b.d (gone-mul-r 2f p.d))) (gone-mul-l b.dd p.v);
}

-- ---- sums of jets
sum-v : (a : Jet) (F : ℕ → Jet) (n : ℕ) → (sum_jet_from a F n).v ≡ sum_from a.v (λ k. (F k).v) n
unfolding fold_to add_j
sum-v a F zero = refl
sum-v a F (suc n) = ap (λ (x : Float). x ⊕ (F n).v) (sum-v a F n)

sum-d : (a : Jet) (F : ℕ → Jet) (n : ℕ) → (sum_jet_from a F n).d ≡ sum_from a.d (λ k. (F k).d) n
unfolding fold_to add_j
sum-d a F zero = refl
sum-d a F (suc n) = ap (λ (x : Float). x ⊕ (F n).d) (sum-d a F n)

sum-dd : (a : Jet) (F : ℕ → Jet) (n : ℕ) → (sum_jet_from a F n).dd ≡ sum_from a.dd (λ k. (F k).dd) n
unfolding fold_to add_j
sum-dd a F zero = refl
sum-dd a F (suc n) = ap (λ (x : Float). x ⊕ (F n).dd) (sum-dd a F n)

pub sum_j_fits-v : (a : Jet) (F : ℕ → Jet) (n : ℕ) → T (fits binary64 a.v) → T (fits binary64 (sum_jet_from a F n).v)
sum_j_fits-v a F n h = subst (λ (x : Float). T (fits binary64 x)) (sym (sum-v a F n)) (sum_fits a.v (λ k. (F k).v) n h)

pub record FitsJ (a : Jet) : Type 0 where
  pub v : T (fits binary64 a.v)
  pub d : T (fits binary64 a.d)
  pub dd : T (fits binary64 a.dd)

swap2 : (R : Float → Float → Type 0) (x x' y y' : Float) → x ≡ x' → y ≡ y' → R x' y' → R x y
swap2 R x x' y y' p q r = subst (λ (z : Float). R z y) (sym p) (subst (λ (z : Float). R x' z) (sym q) r)

zero_fits : FitsJ zero_j
unfolding fits const_j of_bits
zero_fits = record { v = tt; d = tt; dd = tt }

module _ (keep : ℕ → Bool) (F F' : ℕ → Jet) (n : ℕ) (kept : (k : ℕ) → k < n → T (keep k) → F k ⊑J F' (cnt keep k)) (struck : (k : ℕ) → k < n → T (not (keep k)) → F k ⊑J zero_j) where
  pub strike_from_j : (a a' : Jet) → FitsJ a → a ⊑J a' → sum_jet_from a F n ⊑J sum_jet_from a' F' (cnt keep n)
  unfolding const_j of_bits
  strike_from_j a a' h r = record {
    v = swap2 ◌⊑◌ _ _ _ _ (sum-v a F n) (sum-v a' F' (cnt keep n)) (strike_from keep (λ k. (F k).v) (λ k. (F' k).v) n (λ k l t. (kept k l t).v) (λ k l t. (struck k l t).v) a.v a'.v h.v r.v);
    d = swap2 ◌⊑◌ _ _ _ _ (sum-d a F n) (sum-d a' F' (cnt keep n)) (strike_from keep (λ k. (F k).d) (λ k. (F' k).d) n (λ k l t. (kept k l t).d) (λ k l t. (struck k l t).d) a.d a'.d h.d r.d);
    dd = swap2 ◌⊑◌ _ _ _ _ (sum-dd a F n) (sum-dd a' F' (cnt keep n)) (strike_from keep (λ k. (F k).dd) (λ k. (F' k).dd) n (λ k l t. (kept k l t).dd) (λ k l t. (struck k l t).dd) a.dd a'.dd h.dd r.dd);
  }

  -- from zero, with values that fit, as a divisor
  pub strike_sum_j : ((k : ℕ) → T (fits binary64 (F k).v)) → ((k : ℕ) → T (fits binary64 (F' k).v)) → sum_jet_to F n ⊑D sum_jet_to F' (cnt keep n)
  unfolding const_j of_bits
  strike_sum_j p q =
      let r = strike_from_j zero_j zero_j zero_fits (J_refl zero_j) in
      record {
        v = swap2 ◌⊑!◌ _ _ _ _ (sum-v zero_j F n) (sum-v zero_j F' (cnt keep n)) (strike_sum keep (λ k. (F k).v) (λ k. (F' k).v) n (λ k l t. (kept k l t).v) (λ k l t. (struck k l t).v) p q);
        d = r.d;
        dd = r.dd;
      }
