-- A table made from a book's own blocks stands for the book's parameters. Assumes nothing.
use Prim.Native.Nat.{ℕ}
use mathlib.Core.Path.{◌≡◌, sym, ◌∙◌}
use mathlib.Core.List.{List}
use native.Mathlib.Omega.{arith}
use lib.Ieee.{Float}
use Rattle.std.specs.Prelude.{Result, Ok}
use Rattle.floats.specs.Vector.{places}
use Rattle.thermo_types.specs.declared.Temperature.{Temperature}
use Rattle.outcome.specs.declared.Refusal.{Refusal}
use Rattle.book.specs.declared.Model.{Model}
use Rattle.book.specs.declared.Model.TheVariants.{Nrtl, Wilson}
use Rattle.book.specs.Book.{model_of}
use Rattle.jet.specs.Lanes.{Lists}
use Rattle.records.specs.Parameters.{parameters_of}
use Rattle.records.specs.Sources.{six_by, Reads}
use Rattle.records.proofs.Sources.{pairs_listed}
use Rattle.nrtl_tables.specs.Table.{Filled}
use Rattle.wilson_tables.specs.Table.{lambdas_of}
use Rattle.thermo_models.specs.Activity.{Stands}
use Rattle.thermo_models.proofs.Stands.{stands, nrtl_made, wilson_made}

module _ (book : List ℕ) (blocks : List (List ℕ)) (n : ℕ) (t : Temperature) {m c : ℕ} {k : Model} {old new : List Float}
    (reads : Reads blocks m book (places n)) (by : k ≡ model_of book) (count : c ≡ places n) where
  pub nrtl_whole : {v : Result (Unit {0}) Refusal} → k ≡ Nrtl → ((P : List Float) → Lists (six_by Nrtl blocks m) m P → Filled P m t.0 v old new)
      → Stands book (parameters_of book (places n)) (places n) t (record { model = k; alphas = v; n = c; t = t }) old new
  nrtl_whole q h =
      let P = parameters_of book (places n) in
      let lists = pairs_listed Nrtl blocks book (places n) (omega arith) (rw reads.count at reads) (sym by ∙ q) in
      stands Nrtl book P n t by q (nrtl_made P n t q ((rw reads.count at h) P lists) count)

  pub wilson_whole : k ≡ Wilson → ((P : List Float) → Lists (six_by Wilson blocks m) m P → new ≡ lambdas_of P m t.0 old)
      → Stands book (parameters_of book (places n)) (places n) t (record { model = k; alphas = Ok tt; n = c; t = t }) old new
  wilson_whole q h =
      let P = parameters_of book (places n) in
      let lists = pairs_listed Wilson blocks book (places n) (omega arith) (rw reads.count at reads) (sym by ∙ q) in
      stands Wilson book P n t by q (wilson_made P n t q ((rw reads.count at h) P lists) count)
