-- The ways out of `state`; the code's one test for 25 is the definition's four. Assumes nothing.
use mathlib.Core.Path.{◌≡◌, refl, ◌∙◌}
use mathlib.Core.Bool.{Bool, true, false, ◌&&◌}
use mathlib.Core.List.{List}
use lib.Ieee.{Float}
use Rattle.std.specs.Prelude.{Result, Ok}
use Rattle.floats.specs.Small.{is_finite}
use Rattle.floats.specs.Outcome.{ok, no, need}
use Rattle.floats.proofs.Outcomes.{need_yes, need-no, need_both}
use Rattle.outcome.specs.declared.Refusal.{Refusal}
use Rattle.jet.specs.declared.Jet.{Jet}
use Rattle.excess.specs.declared.Energies.{Energies}
use Rattle.excess.specs.State.{Excess, gibbs_of, enthalpy_of, entropy_of, heat_capacity_of, state_with}
use Rattle.excess.specs.Answers.{energies_of, excess_ln_gammas, excess_slopes, Gives, energies_at, energies_finite}
use Rattle.excess.proofs.Passing.{gives}

-- the state of the definition, accepted
abbrev whole : Jet → Float → List Float → List Float → Excess
whole e t lg sl = record {
  ln_gamma = lg;
  slopes = sl;
  reduced = e.v;
  gibbs = gibbs_of e t;
  enthalpy = enthalpy_of e t;
  entropy = entropy_of e t;
  heat_capacity = heat_capacity_of e t;
}

one-test : (e : Jet) (t : Float) (lg sl : List Float) → state_with e t lg sl ≡ need (energies_finite (energies_at e t)) 25 (ok (whole e t lg sl))
unfolding state_with energies_finite energies_at
one-test e t lg sl =
    let g = is_finite (gibbs_of e t) in
    let h = is_finite (enthalpy_of e t) in
    let c = is_finite (heat_capacity_of e t) in
    rw (need_both g h, need_both (g && h) c, need_both (g && h && c))

module _ (e : Jet) (t : Float) (lg sl : List Float) {s : Float} {r : Energies} {b : Bool} (ps : s ≡ t) (pr : r ≡ energies_at e s) (pb : b ≡ energies_finite r) where
  tested : energies_finite (energies_at e t) ≡ b
  tested = rw (pb, pr, ps)

  pub state_yes : b ≡ true → Gives (state_with e t lg sl) (Ok r) lg sl
  unfolding energies_of excess_ln_gammas excess_slopes energies_at
  state_yes q = gives (one-test e t lg sl ∙ need_yes 25 (ok (whole e t lg sl)) (tested ∙ q)) (record { energies = rw (pr, ps); values = refl; slopes = refl })

  pub state-no : b ≡ false → {r' : Result Energies Refusal} {lg' sl' : List Float} → Gives (no 25) r' lg' sl' → Gives (state_with e t lg sl) r' lg' sl'
  state-no q g = gives (one-test e t lg sl ∙ need-no 25 (ok (whole e t lg sl)) (tested ∙ q)) g
