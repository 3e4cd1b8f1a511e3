-- The readers' numbers: 1 of both at once, then 10; and what the lab is handed. Assumes nothing.
use Prim.Native.Nat.{ℕ, ◌<◌}
use mathlib.Core.Path.{◌≡◌, refl, sym, ap, ◌∙◌}
use mathlib.Core.Logic.{◌⊎◌, inl, inr}
use mathlib.Core.Bool.{Bool, true, false}
use mathlib.Core.List.{List, []}
use native.Mathlib.Omega.{arith}
use borrow.Author.Tests.{leb-false}
use lib.Dec.{leb}
use lib.ListN.{take}
use Rattle.floats.specs.Outcome.{Out, ok, no, bind, need}
use Rattle.floats.proofs.Outcomes.{refused, bind-no}
use Rattle.readers.specs.Readers.{part_of, floor_of, floor_to, lab_of, lab_bytes}
use Rattle.floors.specs.Numbered.{ReadersRefuse, LabIsFront, ZeroIsOne, FloorNumbers}
use Rattle.floors.proofs.Behind.{begins, part-long}

-- no number but 1 is there
abbrev OnlyOne : Out ℕ → Type 0
OnlyOne o = (r : ℕ) → o ≡ no r → r ≡ 1

says-need : (b : Bool) {o : Out ℕ} → OnlyOne o → OnlyOne (need b 1 o)
unfolding need
says-need true h = h
says-need false h = λ r e. cc

only_one : (s : List ℕ) → OnlyOne (part_of s)
unfolding part_of
only_one s = says-need _ (says-need _ (says-need _ (says-need _ (λ r e. absurd (refused (sym e))))))

-- a reader refuses as the part does
reads-no : {B : Type 0} (o : Out ℕ) (f : ℕ → B) {r : ℕ} → bind o (λ n. ok (f n)) ≡ no r → o ≡ no r
unfolding bind
reads-no (ok n) f e = absurd (refused (sym e))
reads-no (no t) f {r} e = let q : t ≡ r = cc in ap no q

module _ (s : List ℕ) where
  says-one : {r : ℕ} → part_of s ≡ no r → (r ≡ 1) × (part_of s ≡ no 1)
  says-one {r} e = let q = only_one s r e in (q, e ∙ ap no q)

  floor-no : {r : ℕ} → floor_of s ≡ no r → (r ≡ 1) × (part_of s ≡ no 1)
  unfolding floor_of
  floor-no e = says-one (reads-no (part_of s) _ e)

  lab-no : {r : ℕ} → lab_of s ≡ no r → (r ≡ 1) × (part_of s ≡ no 1)
  unfolding lab_of
  lab-no e = says-one (reads-no (part_of s) _ e)

pub readers_refuse : ReadersRefuse
unfolding floor_of lab_of
readers_refuse s r = (
  λ e. let one = floor-no s e in (one.0, bind-no _ one.1),
  λ e. let one = lab-no s e in (one.0, bind-no _ one.1),
)

pub lab-is-front : LabIsFront
lab-is-front s part e =
    let g = begins s part e in
    let m = part-long s part [] g in
    (omega (arith, m), g.is ∙ ap (λ (k : ℕ). take k s) (sym m))

pub zero_is-one : ZeroIsOne
unfolding lab_bytes
zero_is-one s = go (lab_of s) refl
  where
    go : (o : Out (List ℕ)) → lab_of s ≡ o → lab_bytes o ≡ 0 → o ≡ no 1
    go (ok part) e z = absurd (omega (arith, (lab-is-front s part e).0, z))
    go (no r) e z = ap no ((readers_refuse s r).1 e).0

pub floor_numbers : FloorNumbers
unfolding floor_to bind need
floor_numbers s room r = go (floor_of s) refl (leb 22 room) refl
  where
    go : (o : Out (List ℕ)) → floor_of s ≡ o → (b : Bool) → leb 22 room ≡ b → bind o (λ ws. need b 10 (ok ws)) ≡ no r
        → ((floor_of s ≡ no 1) × (r ≡ 1)) ⊎ ((room < 22) × (r ≡ 10))
    go (no t) f b l e = let q : t ≡ r = cc in let one = ((readers_refuse s t).0 f).0 in inl (f ∙ ap no one, sym q ∙ one)
    go (ok ws) f true l e = absurd (refused (sym e))
    go (ok ws) f false l e = let q : 10 ≡ r = cc in inr (leb-false 22 room l, sym q)
