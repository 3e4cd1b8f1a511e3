-- The vapor pressure of a pure liquid, as rounded steps in the order of liquid.rs:
--   ln p = ln p_r + (T_r / T) S,  S = Σ n_k θ^t_k,  θ = 1 - T / T_r,  with both temperature derivatives. Assumes nothing.
use Rattle.std.specs.Prelude.{ℕ, Bool, not, ◌&&◌, List, Float}
use Rattle.std.specs.Float.Ieee.{neg, le}
use Rattle.floats.specs.Arithmetic.{◌⊕◌, ◌⊖◌, ◌⊗◌, ◌⊘◌, 0f, 1f, 2f}
use Rattle.floats.specs.Small.{is_finite}
use Rattle.floats.specs.Fold.{sum_to}
use Rattle.floats.specs.Vector.{at, places}
use Rattle.floats.specs.Outcome.{Out, ok, need}
use Rattle.numerics.specs.Numerics.{exp_of, ln_of, powf_of}
use Rattle.records.specs.declared.Ancillary.{Ancillary}
use Rattle.liquid.specs.declared.Sums.{Sums}
use Rattle.liquid.specs.declared.VaporPressure.{VaporPressure}

-- T in a closed range
unfoldable pub in_range : Float → Float → Float → Bool
in_range low high t = le low t && le t high

-- p in Pa, ln p, d ln p / dT in 1/K, d² ln p / dT² in 1/K²
abbrev pub Vapor : Type 0
Vapor = VaporPressure

abbrev pub vapor : Float → Float → Float → Float → Vapor
vapor p lnP d d2 = record { pressure = p; ln = record { value = lnP; slope = d; curvature = d2 } }

-- the terms of S, and of its first and second derivative by T (dθ/dT = -1 / T_r), from n_k and t_k
unfoldable pub term : Float → Float → Float → Float
term θ n e = n ⊗ powf_of θ e

unfoldable pub slope_term : Float → Float → Float → Float → Float
slope_term tr θ n e = neg n ⊗ e ⊗ powf_of θ (e ⊖ 1f) ⊘ tr

unfoldable pub curvature_term : Float → Float → Float → Float → Float
curvature_term tr θ n e = n ⊗ e ⊗ (e ⊖ 1f) ⊗ powf_of θ (e ⊖ 2f) ⊘ (tr ⊗ tr)

-- S and its derivatives over the first `count` terms
unfoldable pub sums_of : List Float → List Float → Float → Float → ℕ → Sums
sums_of n e tr θ count = record {
  s = sum_to (λ k. term θ (at n k) (at e k)) count;
  ds = sum_to (λ k. slope_term tr θ (at n k) (at e k)) count;
  d2s = sum_to (λ k. curvature_term tr θ (at n k) (at e k)) count;
}

-- from S: q = T_r / T, q' = -T_r / T², q'' = 2 T_r / T³
unfoldable pub vapor_from : Float → Float → Float → Sums → Vapor
vapor_from tr pr t S =
    let q = tr ⊘ t in
    let q' = neg tr ⊘ (t ⊗ t) in
    let q'' = 2f ⊗ tr ⊘ (t ⊗ t ⊗ t) in
    let lnP = ln_of pr ⊕ q ⊗ S.s in
    vapor (exp_of lnP) lnP (q' ⊗ S.s ⊕ q ⊗ S.ds) (q'' ⊗ S.s ⊕ 2f ⊗ q' ⊗ S.ds ⊕ q ⊗ S.d2s)

-- of a record; a term count past eight is read as eight
unfoldable pub vapor_of : Ancillary → Float → Vapor
vapor_of a t = vapor_from a.t_r a.reducing_value t (sums_of a.n a.t a.t_r (1f ⊖ t ⊘ a.t_r) (places a.count))

-- all four finite and the pressure positive, else 25
unfoldable pub representable : Vapor → Out Vapor
representable v =
    need (is_finite v.pressure && is_finite v.ln.value && is_finite v.ln.slope && is_finite v.ln.curvature) 25
    (need (not (le v.pressure 0f)) 25
    (ok v))

-- `vapor_pressure`: T in the correlation's range (22), then its numbers (25)
unfoldable pub vapor_pressure_of : Ancillary → Float → Out Vapor
vapor_pressure_of a t = need (in_range a.low a.high t) 22 (representable (vapor_of a t))
