-- What the loops over the pure liquids keep, and the two ways out of `Solvents::pures`. Assumes nothing.
use Prim.Native.Nat.{ℕ, zero, suc, ◌+◌, ◌*◌, ◌≤◌}
use mathlib.Core.Path.{◌≡◌, refl, sym, ap, ◌∙◌}
use mathlib.Core.Bool.{Bool, true, false, not, ◌&&◌, true≢false}
use mathlib.Core.List.{List}
use native.Mathlib.Omega.{arith}
use lib.ListN.{set}
use lib.Ieee.{Float, le}
use Rattle.floats.specs.Fold.{all_to}
use Rattle.floats.specs.Vector.{at, fill, vec, zeros8}
use Rattle.floats.specs.Outcome.{ok, no, bind, need}
use Rattle.floats.proofs.Fills.{fill-turn, fill_cong, vec-at}
use Rattle.floats.proofs.Folds.{all_cong}
use Rattle.floats.specs.Arithmetic.{0f}
use Rattle.floats.specs.Small.{is_finite}
use Rattle.floats.proofs.Outcomes.{need_yes}
use Rattle.numerics.specs.Numerics.{exp_of}
use Rattle.thermo_types.specs.Quantities.{lowest_kelvin, highest_kelvin}
use Rattle.records.specs.Records.{ancillary_of, range_of}
use Rattle.liquid.specs.Vapor.{Vapor, vapor_from, vapor_of, representable, vapor_pressure_of, in_range}
use Rattle.liquid.proofs.Ways.{sound_of, sound_is}
use Rattle.thermo_models.specs.Model.{Pures}
use Rattle.thermo_models.specs.Domain.{vapor_record, vapor_range, density_range, solvent_covers, temperature_in_domain, pures_to}

-- ---- what the loops keep
pub pressures-turn : (l : List Float) (i : ℕ) {p q : Float} {m : List Float} → (p ≡ exp_of (at l (2 * i))) × (q ≡ exp_of (at l (2 * i + 1))) → m ≡ vec (λ k. exp_of (at l k)) (2 * i)
    → set (set m (2 * i) p) (2 * i + 1) q ≡ vec (λ k. exp_of (at l k)) (2 * (i + 1))
pressures-turn l i e h =
    let k : 2 * i + 1 + 1 ≡ 2 * (i + 1) = omega arith in
    let f : ℕ → Float = λ k. exp_of (at l k) in
    fill-turn f (2 * i + 1) zeros8 e.1 (fill-turn f (2 * i) zeros8 e.0 h) ∙ ap (vec f) k

both : (a b : Bool) → (a && b) ≡ true → (a ≡ true) × (b ≡ true)
both true b e = (refl, e)
both false b e = absurd (true≢false (sym e))

-- ---- in the ranges of all solvents a vapor pressure is refused with 25 alone
module _ (book : List ℕ) (t : Float) where
  abbrev pub liquid : ℕ → Vapor
  liquid i = vapor_of (vapor_record book i) t

  abbrev pub filled : ℕ → Pures
  filled n = record { pressure = vec (λ i. (liquid i).pressure) n; slope = vec (λ i. (liquid i).ln.slope) n }

  covered : (i : ℕ) → solvent_covers book t i ≡ true → vapor_pressure_of (vapor_record book i) t ≡ need (sound_of (liquid i)) 25 (ok (liquid i))
  unfolding solvent_covers vapor_pressure_of ancillary_of range_of
  covered i h = need_yes 22 (representable (liquid i)) (both (in_range (vapor_range book i).0 (vapor_range book i).1 t) (in_range (density_range book i).0 (density_range book i).1 t) h).0 ∙ sound_is (liquid i)

  step : (a b : Bool) (p : Pures) (v : Vapor) (f : Pures → Vapor → Pures) → bind (need a 25 (ok p)) (λ p. bind (need b 25 (ok v)) (λ v. ok (f p v))) ≡ need (a && b) 25 (ok (f p v))
  unfolding bind need
  step true true p v f = refl
  step true false p v f = refl
  step false b p v f = refl

  pures_are : (n : ℕ) → all_to (solvent_covers book t) n ≡ true → pures_to book t n ≡ need (all_to (λ i. sound_of (liquid i)) n) 25 (ok (filled n))
  unfolding pures_to all_to fill need
  pures_are zero h = refl
  pures_are (suc n) h =
      let b = both (all_to (solvent_covers book t) n) (solvent_covers book t n) h in
      let f : Pures → Vapor → Pures = λ p v. record { pressure = set p.pressure n v.pressure; slope = set p.slope n v.ln.slope } in
      rw (pures_are n b.0, covered n b.1) (step (all_to (λ i. sound_of (liquid i)) n) (sound_of (liquid n)) (filled n) (liquid n) f)

  -- from the arrays that the code filled
  module _ (n : ℕ) (l : n ≤ 8) (h : all_to (solvent_covers book t) n ≡ true) {ls dps cs ps : List Float} {b : Bool} (el : ls ≡ vec (λ i. (liquid i).ln.value) n) (ed : dps ≡ vec (λ i. (liquid i).ln.slope) n)
      (ec : cs ≡ vec (λ i. (liquid i).ln.curvature) n) (ep : ps ≡ vec (λ i. exp_of (at ls i)) n)
      (eb : b ≡ all_to (λ i. is_finite (at ps i) && is_finite (at ls i) && is_finite (at dps i) && is_finite (at cs i) && not (le (at ps i) 0f)) n) where
    pressures : ps ≡ vec (λ i. (liquid i).pressure) n
    unfolding vapor_of vapor_from
    pressures = ep ∙ fill_cong (λ i. exp_of (at ls i)) (λ i. (liquid i).pressure) n zeros8 (λ k q. ap exp_of (ap (λ (z : List Float). at z k) el ∙ vec-at (λ i. (liquid i).ln.value) n k l q))

    tests : b ≡ all_to (λ i. sound_of (liquid i)) n
    tests = eb ∙ all_cong n (λ k q.
        let p : at ps k ≡ (liquid k).pressure = ap (λ (z : List Float). at z k) pressures ∙ vec-at (λ i. (liquid i).pressure) n k l q in
        let a : at ls k ≡ (liquid k).ln.value = ap (λ (z : List Float). at z k) el ∙ vec-at (λ i. (liquid i).ln.value) n k l q in
        let d : at dps k ≡ (liquid k).ln.slope = ap (λ (z : List Float). at z k) ed ∙ vec-at (λ i. (liquid i).ln.slope) n k l q in
        let c : at cs k ≡ (liquid k).ln.curvature = ap (λ (z : List Float). at z k) ec ∙ vec-at (λ i. (liquid i).ln.curvature) n k l q in
        rw (p, a, d, c))

    pub pures_refused : b ≡ false → pures_to book t n ≡ no 25
    unfolding need
    pures_refused q = pures_are n h ∙ rw (← tests, q)

    pub pures_passed : b ≡ true → pures_to book t n ≡ ok (record { pressure = ps; slope = dps })
    unfolding need
    pures_passed q = pures_are n h ∙ rw (← tests, q, pressures, ed)

-- ---- the domain first
pub covers : (book : List ℕ) (n : ℕ) (t : Float) → true ≡ temperature_in_domain book n t → all_to (solvent_covers book t) n ≡ true
unfolding temperature_in_domain
covers book n t e = (both (in_range lowest_kelvin highest_kelvin t) (all_to (solvent_covers book t) n) (sym e)).1
