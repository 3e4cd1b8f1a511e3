-- A value with its first and second temperature derivatives, and the rules of calculus for them, in the Rust's order. Assumes nothing.
use Rattle.std.specs.Prelude.{ℕ, Float}
use Rattle.std.specs.Float.Ieee.{neg}
use Rattle.floats.specs.Arithmetic.{◌⊕◌, ◌⊖◌, ◌⊗◌, ◌⊘◌, 0f, 2f}
use Rattle.floats.specs.Fold.{fold_to}
use Rattle.numerics.specs.Numerics.{exp_of, ln_of}
use Rattle.jet.specs.declared.Jet.{Jet}

-- a number that doesn't depend on T
unfoldable pub const_j : Float → Jet
const_j v = record { v = v; d = 0f; dd = 0f }

-- value and first derivative alone
unfoldable pub two_j : Float → Float → Jet
two_j v d = record { v = v; d = d; dd = 0f }

unfoldable pub add_j : Jet → Jet → Jet
add_j a b = record { v = a.v ⊕ b.v; d = a.d ⊕ b.d; dd = a.dd ⊕ b.dd }

unfoldable pub sub_j : Jet → Jet → Jet
sub_j a b = record { v = a.v ⊖ b.v; d = a.d ⊖ b.d; dd = a.dd ⊖ b.dd }

unfoldable pub neg_j : Jet → Jet
neg_j a = record { v = neg a.v; d = neg a.d; dd = neg a.dd }

-- (a b)'' = a'' b + 2 a' b' + a b''
unfoldable pub mul_j : Jet → Jet → Jet
mul_j a b = record {
  v = a.v ⊗ b.v;
  d = a.d ⊗ b.v ⊕ a.v ⊗ b.d;
  dd = a.dd ⊗ b.v ⊕ 2f ⊗ a.d ⊗ b.d ⊕ a.v ⊗ b.dd;
}

-- times a number
unfoldable pub scale_j : Jet → Float → Jet
scale_j a x = record { v = a.v ⊗ x; d = a.d ⊗ x; dd = a.dd ⊗ x }

-- q = a / b, from a' = q' b + q b' and a'' = q'' b + 2 q' b' + q b''
unfoldable pub div_j : Jet → Jet → Jet
div_j a b =
    let q = a.v ⊘ b.v in
    let d = (a.d ⊖ q ⊗ b.d) ⊘ b.v in
    record { v = q; d = d; dd = (a.dd ⊖ 2f ⊗ d ⊗ b.d ⊖ q ⊗ b.dd) ⊘ b.v }

-- exp a, where e is exp of its value: e, e a', e (a'' + a' a')
unfoldable pub exp_with : Float → Jet → Jet
exp_with e a = record { v = e; d = e ⊗ a.d; dd = e ⊗ (a.dd ⊕ a.d ⊗ a.d) }

abbrev pub exp_j : Jet → Jet
exp_j a = exp_with (exp_of a.v) a

-- ln a, where l is ln of its value: l, a' / a, (a'' - a' a' / a) / a
unfoldable pub ln_with : Float → Jet → Jet
ln_with l a = record { v = l; d = a.d ⊘ a.v; dd = (a.dd ⊖ a.d ⊗ a.d ⊘ a.v) ⊘ a.v }

abbrev pub ln_j : Jet → Jet
ln_j a = ln_with (ln_of a.v) a

-- a + f 0 + f 1 + .. + f (n - 1), in that order
abbrev pub sum_jet_from : Jet → (ℕ → Jet) → ℕ → Jet
sum_jet_from a f n = fold_to (λ k (s : Jet). add_j s (f k)) a n

-- the sum from +0
abbrev pub sum_jet_to : (ℕ → Jet) → ℕ → Jet
sum_jet_to f n = sum_jet_from (const_j 0f) f n
