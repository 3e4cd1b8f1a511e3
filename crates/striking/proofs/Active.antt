-- Loops over the positive entries are struck: an absent entry is not positive, and a kept one is positive in both calls or in neither. Assumes nothing.
use mathlib.Core.Path.{◌≡◌, refl, sym, ap, ◌∙◌, subst}
use Prim.Native.Nat.{ℕ, ◌<◌}
use mathlib.Core.Bool.{Bool, true, false, not, cond}
use lib.Dec.{T}
use lib.Ieee.{Float, nan, inf, fin, binary64, fits, lt, is_nan, of_bits}
use Rattle.floats.specs.Arithmetic.{0f}
use Rattle.floats.specs.Small.{max_of}
use Rattle.floats.specs.Fold.{fold_to, active}
use Rattle.zeros.specs.Same.{◌≈◌}
use Rattle.zeros.proofs.Congruence.{≈refl, lt_≈}
use Rattle.zeros.proofs.Zero.{Zero}
use Rattle.zeros.specs.Below.{◌⊑◌}
use Rattle.zeros.proofs.Numbers.{is_nan_≈, pick_≈}
use Rattle.striking.specs.Places.{cnt}
use Rattle.striking.specs.Related.{Fractions}
use Rattle.striking.proofs.Strike.{strike_fold}

-- what is NaN or zero is not positive
pub gone_not_pos : {x : Float} → x ⊑ 0f → lt 0f x ≡ false
unfolding of_bits
gone_not_pos {x} p = go x p
  where
    go : (x : Float) → x ⊑ 0f → lt 0f x ≡ false
    go nan p = unfold lt in refl
    go (inf s) p = lt_≈ (≈refl 0f) (p.at tt) ∙ (unfold lt in refl)
    go (fin s m e) p = lt_≈ (≈refl 0f) (p.at tt) ∙ (unfold lt in refl)

pub cond_off : {X : Type 0} (b : Bool) (x y : X) → b ≡ false → cond b x y ≡ y
cond_off b x y e = ap (λ (c : Bool). cond c x y) e

-- a choice between an f64 and +0 is an f64, and a zero where it isn't taken
pub cond_fit : (b : Bool) (x : Float) → T (fits binary64 x) → T (fits binary64 (cond b x 0f))
unfolding of_bits fits
cond_fit true x p = p
cond_fit false x p = tt

pub zero_cond : (b : Bool) (x : Float) → b ≡ false → Zero (cond b x 0f)
unfolding of_bits
zero_cond b x e = subst Zero (sym (cond_off b x 0f e)) tt

pub max_≈ : {x x' y y' : Float} → x ≈ x' → y ≈ y' → max_of x y ≈ max_of x' y'
max_≈ {x} {x'} {y} {y'} p q = pick_≈ (is_nan x) (is_nan x') (is_nan_≈ x x' p) q (pick_≈ (lt x y) (lt x' y') (lt_≈ p q) q p)

pub strike_active : {S S' : Type 0} (keep : ℕ → Bool) (n : ℕ) (R : S → S' → Type 0) (x x' : ℕ → Float) → Fractions keep n x x' → (f : ℕ → S → S) (f' : ℕ → S' → S') (s : S) (s' : S') → R s s'
    → ((k : ℕ) → k < n → T (keep k) → (a : S) (b : S') → R a b → R (f k a) (f' (cnt keep k) b))
    → R (fold_to (active x f) s n) (fold_to (active x' f') s' (cnt keep n))
strike_active {S} {S'} keep n R x x' hx f f' s s' r kept =
    strike_fold keep R (active x f) (active x' f') s s' n r
    (λ k l q a b h. go (lt 0f (x k)) (lt 0f (x' (cnt keep k))) (lt_≈ (≈refl 0f) (hx.fraction k l q)) (f k a) a (f' (cnt keep k) b) b (kept k l q a b h) h)
    (λ k l q a b h. subst (λ (u : S). R u b) (sym (cond_off (lt 0f (x k)) (f k a) a (gone_not_pos (hx.absent k l q)))) h)
  where
    go : (c c' : Bool) → c ≡ c' → (u a : S) (v b : S') → R u v → R a b → R (cond c u a) (cond c' v b)
    go c c' e u a v b p q = subst (λ (d : Bool). R (cond c u a) (cond d v b)) e (at c)
      where
        at : (c : Bool) → R (cond c u a) (cond c v b)
        at true = p
        at false = q

pub cong2 : {A B C : Type 0} (f : A → B → C) {a a' : A} {b b' : B} → a ≡ a' → b ≡ b' → f a b ≡ f a' b'
cong2 f {a} {a'} {b} {b'} p q = ap (λ x. f x b) p ∙ ap (f a') q

-- a choice that both calls make alike
pub cond_when : {X : Type 0} (b b' : Bool) (x y x' y' : X) → b ≡ b' → (T b → x ≡ x') → (T (not b) → y ≡ y') → cond b x y ≡ cond b' x' y'
cond_when b b' x y x' y' e f g = go b f g ∙ ap (λ (c : Bool). cond c x' y') e
  where
    go : (b : Bool) → (T b → x ≡ x') → (T (not b) → y ≡ y') → cond b x y ≡ cond b x' y'
    go true f g = f tt
    go false f g = g tt

pub cond_both : {X : Type 0} (a b : Bool) (x y z w : X) → a ≡ b → x ≡ z → y ≡ w → cond a x y ≡ cond b z w
cond_both a b x y z w e p q = ap (λ (c : Bool). cond c x y) e ∙ ap (λ u. cond b u y) p ∙ ap (λ u. cond b z u) q
