-- The search ends at the first step with another outcome, or behind the last: for the outcomes f of any pressures. Assumes nothing.
use Prim.Native.Nat.{ℕ, zero, suc, ◌+◌, ◌≤◌, ◌<◌}
use mathlib.Core.Path.{◌≡◌, refl, sym, ap, ◌∙◌}
use mathlib.Core.Logic.{◌⊎◌, inl, inr, ⊎_elim}
use mathlib.Core.Bool.{Bool, true, false, not, cond, true≢false}
use native.Mathlib.Nat.{eq-or-lt_of_le}
use native.Mathlib.Omega.{arith}
use lib.Dec.{T, eqb, ltb, ltb→lt, nltb→le}
use lib.Ieee.{Float}
use Rattle.floats.specs.Fold.{fold_to}
use Rattle.floats.specs.Outcome.{Out, ok, no}
use Rattle.distance.specs.declared.Distance.{Distance}
use Rattle.distance.specs.declared.Distance.TheVariants.{Step, None}
use Rattle.distance.specs.Distance.{step_count, step_word, pressure_at, tried, search_from}
use Rattle.distances.specs.First.{changes, is_refused, refused_to, First, NoStep}

-- how a search over the outcomes g of the steps ends
pub record Found (g : ℕ → Out ℕ) (o : ℕ) (d : Distance) : Type 0 where
  pub at : ℕ
  pub outcome : ℕ
  pub first : First g o at outcome
  pub is : d ≡ Step (step_word at) outcome (refused_to g at)

pub record Through (g : ℕ → Out ℕ) (o : ℕ) (d : Distance) : Type 0 where
  pub none : NoStep g o
  pub is : d ≡ None (refused_to g step_count)

abbrev pub Ends : (ℕ → Out ℕ) → ℕ → Distance → Type 0
Ends g o d = Found g o d ⊎ Through g o d

-- ---- one step more
module _ (g : ℕ → Out ℕ) (o : ℕ) where
  below_next : (j : ℕ) → ((i : ℕ) → i < j → changes o (g i) ≡ false) → changes o (g j) ≡ false → (i : ℕ) → i < suc j → changes o (g i) ≡ false
  below_next j h e i l = ⊎_elim (λ (q : i ≡ j). rw q e) (λ (k : i < j). h i k) (eq-or-lt_of_le (omega arith))

  counted_next : (j c : ℕ) → c ≡ refused_to g j → (b : Bool) → is_refused (g j) ≡ b → cond b (suc c) c ≡ refused_to g (suc j)
  unfolding refused_to fold_to
  counted_next j c e b q = rw (q, ← e)

module _ (f : Float → Out ℕ) (P : Float) (o : ℕ) where
  abbrev g : ℕ → Out ℕ
  g j = f (pressure_at P j)

  -- from step j on, none before it being such
  ends_from : (left j c : ℕ) → j + left ≡ step_count → c ≡ refused_to g j → ((i : ℕ) → i < j → changes o (g i) ≡ false) → Ends g o (search_from f P o left j c)
  unfolding search_from tried changes is_refused
  ends_from zero j c e k h =
      let q : j ≡ step_count = omega arith in
      inr (record { none = λ i l. h i (omega arith); is = rw (k, q) })
  ends_from (suc left) j c e k h = go (g j) refl (λ i u v. ends_from left (suc j) i (omega arith) u v)
    where
      go : (x : Out ℕ) → g j ≡ x → ((i : ℕ) → i ≡ refused_to g (suc j) → ((i : ℕ) → i < suc j → changes o (g i) ≡ false) → Ends g o (search_from f P o left (suc j) i))
          → Ends g o (tried o x j c (search_from f P o left (suc j)))
      go (no r) q rest =
          let u : changes o (g j) ≡ false = rw q in
          let v : is_refused (g j) ≡ true = rw q in
          rest (suc c) (counted_next g o j c k true v) (below_next g o j h u)
      go (ok o') q rest = same (eqb o' o) refl
        where
          same : (b : Bool) → eqb o' o ≡ b → Ends g o (cond b (search_from f P o left (suc j) c) (Step (step_word j) o' c))
          same true w =
              let u : changes o (g j) ≡ false = rw (q, w) in
              let v : is_refused (g j) ≡ false = rw q in
              rest c (counted_next g o j c k false v) (below_next g o j h u)
          same false w = inl (record { at = j; outcome = o'; first = record { below = omega arith; here = q; other = w; before = h }; is = rw k })

  pub ends : Ends g o (search_from f P o step_count 0 0)
  unfolding refused_to fold_to
  ends = ends_from step_count 0 0 refl refl (λ i l. absurd (omega arith))

-- ---- both directions
module _ (g : ℕ → Out ℕ) (o : ℕ) where
  -- a step that is such isn't passed over
  is_such : {j o' : ℕ} → g j ≡ ok o' → eqb o' o ≡ false → changes o (g j) ≡ false → ⊥
  unfolding changes
  is_such e w h = true≢false (rw (e, w) at h)

  same_first : {j k o' o'' : ℕ} → First g o j o' → First g o k o'' → j ≡ k
  same_first {j} {k} a b = go (ltb j k) (ltb→lt j k) (nltb→le j k)
    where
      go : (t : Bool) → (T t → j < k) → (T (not t) → k ≤ j) → j ≡ k
      go true u v = absurd (is_such a.here a.other (b.before j (u tt)))
      go false u v = ⊎_elim (λ (e : k ≡ j). sym e) (λ (l : k < j). absurd (is_such b.here b.other (a.before k l))) (eq-or-lt_of_le (v tt))

  module _ {d : Distance} (h : Ends g o d) where
    pub ends-step : (s o' k : ℕ) → d ≡ Step s o' k → (j : ℕ) × First g o j o' × (s ≡ step_word j) × (k ≡ refused_to g j)
    ends-step s o' k e = go h
      where
        go : Ends g o d → (j : ℕ) × First g o j o' × (s ≡ step_word j) × (k ≡ refused_to g j)
        go (inl u) =
            let q : Step s o' k ≡ Step (step_word u.at) u.outcome (refused_to g u.at) = sym e ∙ u.is in
            let a : s ≡ step_word u.at = cc in
            let b : o' ≡ u.outcome = cc in
            let c : k ≡ refused_to g u.at = cc in
            (u.at, rw b u.first, a, c)
        go (inr u) =
            let q : Step s o' k ≡ None (refused_to g step_count) = sym e ∙ u.is in
            let z : ◌≡◌ {A = ℕ} 0 1 = cc in
            absurd (omega arith)

    pub ends-first : (j o' : ℕ) → First g o j o' → d ≡ Step (step_word j) o' (refused_to g j)
    ends-first j o' a = go h
      where
        go : Ends g o d → d ≡ Step (step_word j) o' (refused_to g j)
        go (inl u) =
            let q : u.at ≡ j = same_first u.first a in
            let v : ok u.outcome ≡ ok o' = sym u.first.here ∙ ap g q ∙ a.here in
            let w : u.outcome ≡ o' = cc in
            u.is ∙ rw (q, w)
        go (inr u) = absurd (is_such a.here a.other (u.none j a.below))

    pub ends-none : (k : ℕ) → d ≡ None k → NoStep g o × (k ≡ refused_to g step_count)
    ends-none k e = go h
      where
        go : Ends g o d → NoStep g o × (k ≡ refused_to g step_count)
        go (inl u) =
            let q : None k ≡ Step (step_word u.at) u.outcome (refused_to g u.at) = sym e ∙ u.is in
            let z : ◌≡◌ {A = ℕ} 0 1 = cc in
            absurd (omega arith)
        go (inr u) =
            let q : None k ≡ None (refused_to g step_count) = sym e ∙ u.is in
            let c : k ≡ refused_to g step_count = cc in
            (u.none, c)

    pub ends-no-step : NoStep g o → d ≡ None (refused_to g step_count)
    ends-no-step n = go h
      where
        go : Ends g o d → d ≡ None (refused_to g step_count)
        go (inl u) = absurd (is_such u.first.here u.first.other (n u.at u.first.below))
        go (inr u) = u.is
