-- The test `x != x` finds a NaN. Assumes nothing.
use mathlib.Core.Path.{◌≡◌, refl, sym, ◌∙◌, subst}
use mathlib.Core.Bool.{Bool, true, false, not, ◌&&◌, false≢true}
use Prim.Native.Nat.{◌*◌}
use lib.Dec.{T, eqb, eqb_refl}
use lib.Ieee.{Float, nan, inf, fin, up, down, ne, is_nan}

-- `x != x` is the test for a NaN
self_level : (b : Bool) → T b → not (b && true) ≡ false
self_level true t = refl
self_level false t = absurd t

pub self_ne : (x : Float) → ne x x ≡ is_nan x
unfolding ne is_nan
self_ne nan = refl
self_ne (inf true) = refl
self_ne (inf false) = refl
self_ne (fin true m e) = self_level (eqb (m * up e * down e) (m * up e * down e)) (eqb_refl (m * up e * down e))
self_ne (fin false m e) = self_level (eqb (m * up e * down e) (m * up e * down e)) (eqb_refl (m * up e * down e))

pub nan_if : (x : Float) {b : Bool} → ne x x ≡ b → is_nan x ≡ b
nan_if x h = sym (self_ne x) ∙ h

pub no_nan : (b : Bool) → b ≡ false → T (not b)
no_nan true e = subst (λ (x : Bool). T (not x)) (sym e) tt
no_nan false e = tt

pub is_nan_lem : (x : Float) → is_nan x ≡ true → x ≡ nan
unfolding is_nan
is_nan_lem nan h = refl
is_nan_lem (inf s) h = absurd (false≢true h)
is_nan_lem (fin s m e) h = absurd (false≢true h)
