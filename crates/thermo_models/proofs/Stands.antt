-- The excess state of a table made by `tables` is that of the parameters, and what `excess` gives is what `activity` gives. Assumes nothing.
use Prim.Native.Nat.{ℕ}
use mathlib.Core.Path.{◌≡◌, sym, ap, ◌∙◌}
use mathlib.Core.List.{List}
use native.Mathlib.Omega.{arith}
use lib.ListN.{length}
use lib.Ieee.{Float}
use Rattle.floats.specs.Vector.{at, places}
use Rattle.floats.specs.Outcome.{Out, ok, no, bind}
use Rattle.floats.proofs.Outcomes.{refused}
use Rattle.thermo_types.specs.declared.Temperature.{Temperature}
use Rattle.std.specs.Prelude.{Result, Ok, Err}
use Rattle.outcome.specs.declared.Refusal.{Refusal}
use Rattle.book.specs.declared.Model.{Model}
use Rattle.book.specs.declared.Model.TheVariants.{Nrtl, Wilson}
use Rattle.book.specs.Book.{model_of}
use Rattle.excess.specs.declared.Energies.{Energies}
use Rattle.excess.specs.State.{Excess}
use Rattle.excess.specs.Answers.{energies_of, excess_ln_gammas, excess_slopes, GivesBy}
use Rattle.nrtl_tables.specs.Table.{Filled}
use Rattle.nrtl.proofs.Tabled.{nrtl_filled}
use Rattle.wilson_tables.specs.Table.{lambdas_of}
use Rattle.wilson.proofs.Tabled.{wilson_filled}
use Rattle.thermo_models.specs.declared.Tabled.{Tabled}
use Rattle.thermo_models.specs.Activity.{activity_in, excess_by, excess_of, model_on, excess_on, excess_by_reason, table_by, alphas_by, tabled_by, Made, Stands}

-- ---- the table
pub nrtl_made : (P : List Float) (n : ℕ) (t : Temperature) {k : Model} {v : Result (Unit {0}) Refusal} {m : ℕ} {old new : List Float} → k ≡ Nrtl → Filled P (places n) t.0 v old new → m ≡ places n
    → Made Nrtl P (places n) t (record { model = k; alphas = v; n = m; t = t }) old new
unfolding tabled_by alphas_by table_by
nrtl_made P n t q h e = record { said = rw (q, e, h.alphas); table = h.table }

pub wilson_made : (P : List Float) (n : ℕ) (t : Temperature) {k : Model} {m : ℕ} {old new : List Float} → k ≡ Wilson → new ≡ lambdas_of P (places n) t.0 old → m ≡ places n
    → Made Wilson P (places n) t (record { model = k; alphas = Ok tt; n = m; t = t }) old new
unfolding tabled_by alphas_by table_by
wilson_made P n t q h e = record { said = rw (q, e); table = h }

agree : (k : Model) (P : List Float) (n : ℕ) (t : Temperature) (old : List Float) → length old ≡ 512 → (x : List Float)
    → excess_on (table_by k P (places n) t.0 old) (tabled_by k P (places n) t) x ≡ excess_by k P (places n) t.0 x
unfolding excess_by_reason model_on table_by tabled_by alphas_by excess_by
agree Nrtl P n t old len x = let k : places (places n) ≡ places n = omega arith in rw k (nrtl_filled P (places n) t.0 old len (omega arith) (at x))
agree Wilson P n t old len x = let k : places (places n) ≡ places n = omega arith in rw k (wilson_filled P (places n) t.0 old len (omega arith) (at x))

-- by the model k that was read off the book
pub stands : (M : Model) (book : List ℕ) (P : List Float) (n : ℕ) (t : Temperature) {k : Model} {r : Tabled Refusal} {old new : List Float} → k ≡ model_of book → k ≡ M
    → Made M P (places n) t r old new → Stands book P (places n) t r old new
unfolding excess_of
stands M book P n t {k} {r} {old} {new} p q h =
    let e : model_of book ≡ M = sym p ∙ q in
    record {
      made = rw e h;
      agrees = λ len x. rw (e, h.said, h.table) (agree M P n t old len x);
    }

-- ---- the activity of an excess state
module _ {E : Type 0} {said : E → ℕ} where
  pub activity-given : (o : Out Excess) {e : Energies} {lg sl : List Float} → GivesBy said o (Ok e) lg sl → ok (record { ln_gamma = lg; slopes = sl }) ≡ activity_in o
  unfolding activity_in bind energies_of excess_ln_gammas excess_slopes
  activity-given (ok s) g = rw (g.values, g.slopes)
  activity-given (no r) g = absurd (refused (sym g.energies))

  pub activity-none : (o : Out Excess) {r : E} {lg sl : List Float} → GivesBy said o (Err r) lg sl → no (said r) ≡ activity_in o
  unfolding activity_in bind energies_of
  activity-none (ok s) g = absurd (refused g.energies)
  activity-none (no k) {r = r} g = let q : said r ≡ k = cc g.energies in ap no q
