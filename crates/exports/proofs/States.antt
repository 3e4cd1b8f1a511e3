-- The ways out of a call for an excess state. Assumes nothing.
use Prim.Native.Nat.{ℕ}
use mathlib.Core.Path.{◌≡◌, refl, sym, ap, ◌∙◌}
use mathlib.Core.List.{List, []}
use lib.Ieee.{Float}
use lib.ListN.{replicate}
use Rattle.std.specs.Prelude.{Result, Ok}
use Rattle.floats.specs.Arithmetic.{0f}
use Rattle.floats.specs.Vector.{at, fill_from}
use Rattle.floats.specs.Outcome.{Out, ok, no, bind}
use Rattle.floats.proofs.Outcomes.{refused}
use Rattle.outcome.specs.declared.Refusal.{Refusal}
use Rattle.outcome.specs.Refused.{outcome_of}
use Rattle.thermo_types.specs.declared.Temperature.{Temperature}
use Rattle.records.specs.Offered.{with_pair}
use Rattle.records.specs.Parameters.{parameters_of}
use Rattle.records.proofs.Offered.{copy-nothing}
use Rattle.excess.specs.declared.Energies.{Energies}
use Rattle.excess.specs.State.{Excess}
use Rattle.excess.specs.Answers.{energies_in, energies_of, excess_ln_gammas, excess_slopes, Gives}
use Rattle.thermo_models.specs.declared.Tabled.{Tabled}
use Rattle.thermo_models.specs.declared.Assessment.{Assessment}
use Rattle.thermo_models.specs.Activity.{excess_of, excess_on, Stands}
use Rattle.thermo_models.specs.Mixture.{mixture_of}
use Rattle.thermo_models.specs.Validity.{validity_of}
use Rattle.thermo_models.proofs.Answers.{excess_fresh}
use Rattle.exports.specs.Models.{Assessed, energies_stored, excess_written, ExcessGives, excess_in}
use Rattle.exports.specs.Slices.{outcome_number}

abbrev outcome : Out Excess → Assessment → Out Assessed
outcome o a = bind o (λ (s : Excess). ok (record { excess = s; assessment = a }))

excess-refused : (o : Out Excess) (a : Assessment) {m : ℕ} {old : List Float} → no m ≡ energies_of o → ExcessGives (outcome o a) m old old
unfolding bind energies_of outcome_number excess_written
excess-refused (ok s) a q = absurd (refused q)
excess-refused (no r) a q = record { number = cc; floats = refl }

excess-given : (o : Out Excess) (a : Assessment) {e : Energies} {lg sl old new : List Float} → Gives o (Ok e) lg sl
    → new ≡ energies_stored e a (fill_from (at sl) 8 8 (fill_from (at lg) 0 8 old)) → ExcessGives (outcome o a) 0 old new
unfolding bind energies_of excess_ln_gammas excess_slopes outcome_number excess_written
excess-given (ok s) a {e = e} g w = let q : e ≡ energies_in s = cc g.energies in record { number = refl; floats = w ∙ rw (q, g.values, g.slopes) }
excess-given (no r) a g w = absurd (refused (sym g.energies))

-- from the book's parameters, no pair offered, by a table made for t
module _ (book : List ℕ) (n : ℕ) (x : List Float) {P : List Float} {t : Temperature} {s : Tabled Refusal} {table : List Float} (p : P ≡ parameters_of (with_pair n book []) n)
    (h : Stands book P n t s (replicate 512 0f) table) {r : Result Energies Refusal} {lg sl : List Float} (g : Gives (excess_on table s x) r lg sl) where
  known : Gives (excess_of book (parameters_of book n) n t.0 x) r lg sl
  known = let k = ap (λ (E : List Float → Out Excess). E x) (excess_fresh h) in rw (p, copy-nothing) at (rw k at g)

  pub excess-no : {m : ℕ} {old : List Float} → outcome_of r ≡ no m → ExcessGives (excess_in (mixture_of book n) t.0 x) m old old
  unfolding excess_in
  excess-no q = excess-refused _ _ (sym q ∙ known.energies)

  pub excess-ok : {e : Energies} {a : Assessment} {old new : List Float} → r ≡ Ok e → a ≡ validity_of (with_pair n book []) n t.0 x
      → new ≡ energies_stored e a (fill_from (at sl) 8 8 (fill_from (at lg) 0 8 old)) → ExcessGives (excess_in (mixture_of book n) t.0 x) 0 old new
  unfolding excess_in
  excess-ok i v w = excess-given _ _ (rw i at known) (rw (v, copy-nothing) at w)
