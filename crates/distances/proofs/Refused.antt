-- The pair of sheets: its distances differ. Assumes nothing.
use Prim.Native.Nat.{ℕ, zero, suc, ◌≤◌, ◌<◌}
use native.Mathlib.Omega.{arith}
use mathlib.Core.Path.{◌≡◌, refl, sym, ap, ◌∙◌}
use mathlib.Core.Logic.{◌≢◌}
use mathlib.Core.Bool.{Bool, true, false, cond}
use mathlib.Core.List.{List}
use Rattle.floats.specs.Fold.{fold_to}
use Rattle.floats.specs.Outcome.{Out, ok, no}
use Rattle.floats.proofs.Outcomes.{refused, bind_yes}
use Rattle.striking.specs.Questions.{Shorter}
use Rattle.striking.proofs.Build.{builds}
use Rattle.distance.specs.declared.Distance.TheVariants.{Step}
use Rattle.distance.specs.Distance.{step_word}
use Rattle.distances.specs.First.{is_refused, refused_to, First, plain_outcome, step_outcome}
use Rattle.distances.specs.Refused.{long_book, short_book, long_ask, short_ask, RefusedStep}
use Rattle.distances.proofs.Plain.{outcome-read}
use Rattle.distances.proofs.First.{Read, steps, first_step}
use Rattle.distances.proofs.Evaluated.{heads, opened, bytes-book, bytes-ask, built, asked3, asked2, found}

long-read : Read long_book long_ask 2
long-read = record { head = heads 3; opened = opened.long; question = asked3; asked = found.read3; seven = found.task3; outcome = found.at3 }

short-read : Read short_book short_ask 2
short-read = record { head = heads 2; opened = opened.short; question = asked2; asked = found.read2; seven = found.task2; outcome = found.at2 }

long : plain_outcome long_book long_ask ≡ ok 2
long = outcome-read long_book long_ask (heads 3) opened.long found.word3 ∙ bind_yes _ found.read3 ∙ found.at3

short : plain_outcome short_book short_ask ≡ ok 2
short = outcome-read short_book short_ask (heads 2) opened.short found.word2 ∙ bind_yes _ found.read2 ∙ found.at2

long-step : step_outcome long_book long_ask 0 ≡ no 25
unfolding long-read
long-step = steps long_book long_ask found.word3 long-read 0 ∙ found.step3

short-step : step_outcome short_book short_ask 0 ≡ ok 1
unfolding short-read
short-step = steps short_book short_ask found.word2 short-read 0 ∙ found.step2

shorter : Shorter long_book long_ask short_book short_ask
shorter = rw (built.book, built.ask) at (builds long_book long_ask (omega (arith, built.few)) bytes-book bytes-ask)

-- the first step is refused, so it is among those before every other
some-refused : (g : ℕ → Out ℕ) {r : ℕ} → g 0 ≡ no r → (m : ℕ) → 1 ≤ refused_to g (suc m)
unfolding refused_to fold_to is_refused
some-refused g e zero = rw e (omega arith)
some-refused g e (suc m) = go (is_refused (g (suc m))) (some-refused g e m)
  where
    go : (b : Bool) → 1 ≤ refused_to g (suc m) → 1 ≤ cond b (suc (refused_to g (suc m))) (refused_to g (suc m))
    go true l = omega (arith, l)
    go false l = l

not_first : (g : ℕ → Out ℕ) {r o o' : ℕ} → g 0 ≡ no r → (j : ℕ) → First g o j o' → 0 ≡ refused_to g j → ⊥
not_first g e zero f q = refused (sym e ∙ f.here)
not_first g e (suc m) f q = let l = some-refused g e m in omega (arith, l, q)

pub refused-step : RefusedStep
unfolding step_word refused_to fold_to
refused-step = record {
  shorter = shorter;
  long = long;
  short = short;
  long-step = long-step;
  short-step = short-step;
  short-distance = (first_step short_book short_ask 2 found.word2 short).first 0 1 (record { below = omega arith; here = short-step; other = refl; before = λ i l. absurd (omega arith) });
  long-distance = λ e.
      let d = (first_step long_book long_ask 2 found.word3 long).step 1 1 0 e in
      not_first (step_outcome long_book long_ask) long-step d.0 d.1 d.3;
}
