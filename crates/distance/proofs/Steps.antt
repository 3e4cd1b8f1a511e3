-- The outcome of a step by bubble and dew, and the turns of the search. Assumes nothing.
use Prim.Native.Nat.{ℕ, suc, ◌+◌, ◌-◌, ◌*◌, ◌<◌, ◌≤◌}
use mathlib.Core.Path.{◌≡◌, refl, sym, ◌∙◌, ap}
use mathlib.Core.Bool.{true, false}
use native.Mathlib.Numerals.{add-one}
use native.Mathlib.Omega.{arith}
use borrow.Author.Tests.{ne_eqb, eq-eqb}
use lib.Dec.{T, le→leb}
use lib.IntN.{pos}
use lib.Ieee.{Float, binary64, le, in_float}
use Rattle.std.specs.Prelude.{Result, Some, None}
use Rattle.floats.specs.Outcome.{Out, ok, no, choose}
use Rattle.floats.proofs.Outcomes.{bind_yes, bind-no, need_yes, need-no}
use Rattle.outcome.specs.declared.Refusal.{Refusal}
use Rattle.outcome.specs.Refused.{outcome_of}
use Rattle.counted.specs.Counted.{Counted, Counts}
use Rattle.floats.specs.Vector.{places}
use Rattle.thermo_types.specs.declared.Pressure.{Pressure}
use Rattle.thermo_types.specs.Quantities.{pressure_of}
use Rattle.thermo_models.specs.Model.{pressure_in_domain}
use Rattle.thermo_models.specs.Activity.{activity_on}
use Rattle.tp_flash.specs.Tp.{Flash, between_of}
use Rattle.tp_flash.specs.Counted.{between_counted}
use Rattle.tp_flash.proofs.Forgets.{between-outcome}
use Rattle.replies.specs.Answers.{phase_number}
use Rattle.sheet.proofs.Shared.{pascal-no, pascal-ok}
use Rattle.tp_flash.specs.declared.FlashFeed.{FlashFeed}
use Rattle.distance.specs.Distance.{step_word, pressure_at, tried, search_from}
use Rattle.distance.specs.Steps.{phases_at, outcome_by, outcome_in, Keeps}
use Rattle.distance.specs.declared.Distance.{Distance}
use Rattle.distance.specs.declared.Distance.TheVariants as distance
use Rattle.distance.specs.declared.Kept.{Kept}

-- ---- 100 × |s| is a float
pub hundreds-fit : (size : ℕ) → size < 1001 → T (in_float binary64 (pos (100 * size)))
unfolding in_float
hundreds-fit size l = le→leb (100 * size) 9007199254740992 (omega arith)

-- ---- the phases of a feed
module _ (f : FlashFeed) (p : Float) where
  abbrev counted : Counted Flash
  counted = between_counted (activity_on f.feed.table.now f.feed.at) (places f.feed.at.n) f.feed.o f.feed.z.now p f.feed.ps.now f.saturated.bubble f.saturated.dew

  plain : counted.outcome ≡ between_of (activity_on f.feed.table.now f.feed.at) (places f.feed.at.n) f.feed.o f.feed.z.now p f.feed.ps.now f.saturated.bubble f.saturated.dew
  plain = between-outcome (activity_on f.feed.table.now f.feed.at) (places f.feed.at.n) f.feed.o f.feed.z.now p f.feed.ps.now f.saturated.bubble f.saturated.dew

  pub phases-no : {old new r : ℕ} → Counts old (no r) new counted → no r ≡ phases_at f p
  unfolding phases_at
  phases-no c = sym (bind-no _ (sym plain ∙ sym c.outcome))

  pub phases-ok : {old new : ℕ} {x : Flash} {k : ℕ} → Counts old (ok x) new counted → k ≡ phase_number x.phases → ok k ≡ phases_at f p
  unfolding phases_at
  phases-ok c e = ap ok e ∙ sym (bind_yes _ (sym plain ∙ sym c.outcome))

-- ---- 14 and 23 first
module _ (f : FlashFeed) (p : Float) where
  pub at-no : {r : ℕ} → no r ≡ pressure_of p → no r ≡ outcome_in f p
  unfolding outcome_in outcome_by
  at-no e = sym (bind-no _ (pascal-no _ e))

  module _ {v : Pressure} (e : ok v ≡ pressure_of p) {u : Float} (eu : u ≡ v.0) where
    pub at-outside : false ≡ pressure_in_domain u → no 23 ≡ outcome_in f p
    unfolding outcome_in outcome_by
    at-outside k = sym (bind_yes _ (pascal-ok _ e) ∙ need-no 23 _ (sym (rw eu at k)))

    pub at-inside : {x : Out ℕ} → true ≡ pressure_in_domain u → x ≡ phases_at f v.0 → x ≡ outcome_in f p
    unfolding outcome_in outcome_by phases_at
    at-inside k h = h ∙ sym (bind_yes _ (pascal-ok _ e) ∙ need_yes 23 _ (sym (rw eu at k)))

-- ---- by bubble and dew
module _ (f : FlashFeed) where
  pub one_liquid : (p q : Float) → le f.saturated.bubble p ≡ true → le f.saturated.bubble q ≡ true → phases_at f p ≡ phases_at f q
  unfolding phases_at between_of choose
  one_liquid p q a b = rw (a, b)

  pub one_vapor : (p q : Float) → le f.saturated.bubble p ≡ false → le p f.saturated.dew ≡ true → le f.saturated.bubble q ≡ false → le q f.saturated.dew ≡ true → phases_at f p ≡ phases_at f q
  unfolding phases_at between_of choose
  one_vapor p q a b c d = rw (a, b, c, d)

  -- nothing is known at first
  pub keeps_none : Keeps f (record { liquid = None; vapor = None })
  keeps_none = record { liquid = λ r e. cc; vapor = λ r e. cc }

  module _ {k : Kept} (h : Keeps f k) where
    -- an outcome becomes known
    pub keeps_liquid : (p : Float) (r : Result ℕ Refusal) → le f.saturated.bubble p ≡ true → outcome_of r ≡ phases_at f p → Keeps f (record { liquid = Some r; vapor = k.vapor })
    keeps_liquid p r a e = record {
      liquid = λ s q. λ v b. let z : s ≡ r = cc in rw z (e ∙ one_liquid p v a b);
      vapor = h.vapor;
    }

    pub keeps_vapor : (p : Float) (r : Result ℕ Refusal) → le f.saturated.bubble p ≡ false → le p f.saturated.dew ≡ true → outcome_of r ≡ phases_at f p
        → Keeps f (record { liquid = k.liquid; vapor = Some r })
    keeps_vapor p r a b e = record {
      liquid = h.liquid;
      vapor = λ s q. λ v c d. let z : s ≡ r = cc in rw z (e ∙ one_vapor p v a b c d);
    }

-- ---- a turn of the search
module _ (o : ℕ) (x : Out ℕ) (j refused : ℕ) (on : ℕ → Distance) where
  turn-found : {a : ℕ} → ok a ≡ x → (a ≡ o → ⊥) → distance.Step (step_word j) a refused ≡ tried o x j refused on
  unfolding tried
  turn-found {a} e d = rw (sym e, ne_eqb a o d)

  turn-same : {a : ℕ} → ok a ≡ x → a ≡ o → tried o x j refused on ≡ on refused
  unfolding tried
  turn-same {a} e d = rw (sym e, eq-eqb a o d)

  turn-refused : {r : ℕ} → no r ≡ x → tried o x j refused on ≡ on (suc refused)
  unfolding tried
  turn-refused e = rw (sym e)

-- after j of `limit` steps: what is left to search from here is the whole search W
module _ (f : Float → Out ℕ) (P : Float) (o limit j refused : ℕ) {W : Distance} (run : search_from f P o (limit - j) j refused ≡ W) where
  pub search_out : limit ≤ j → distance.None refused ≡ W
  unfolding search_from
  search_out l =
      let m : limit - j ≡ 0 = omega arith in
      rw m at run

  -- u is the step's pressure
  module _ (l : j < limit) {u : Float} (eu : u ≡ pressure_at P j) where
    left : search_from f P o (suc (limit - (j + 1))) j refused ≡ W
    left =
        let m : limit - j ≡ suc (limit - (j + 1)) = omega arith in
        rw m at run

    there : {x : Out ℕ} → x ≡ f u → x ≡ f (pressure_at P j)
    there e = rw eu at e

    pub search-found : {a w : ℕ} → ok a ≡ f u → (a ≡ o → ⊥) → w ≡ step_word j → distance.Step w a refused ≡ W
    unfolding search_from
    search-found e d ew = rw ew (turn-found o (f (pressure_at P j)) j refused (search_from f P o (limit - (j + 1)) (suc j)) (there e) d ∙ left)

    pub search-same : {a : ℕ} → ok a ≡ f u → a ≡ o → search_from f P o (limit - (j + 1)) (j + 1) refused ≡ W
    unfolding search_from
    search-same e d =
        ap (λ (i : ℕ). search_from f P o (limit - (j + 1)) i refused) (add-one j)
        ∙ sym (turn-same o (f (pressure_at P j)) j refused (search_from f P o (limit - (j + 1)) (suc j)) (there e) d) ∙ left

    pub search-refused : {r : ℕ} → no r ≡ f u → search_from f P o (limit - (j + 1)) (j + 1) (refused + 1) ≡ W
    unfolding search_from
    search-refused e =
        ap (λ (i : ℕ). search_from f P o (limit - (j + 1)) i (refused + 1)) (add-one j)
        ∙ ap (search_from f P o (limit - (j + 1)) (suc j)) (add-one refused)
        ∙ sym (turn-refused o (f (pressure_at P j)) j refused (search_from f P o (limit - (j + 1)) (suc j)) (there e)) ∙ left
