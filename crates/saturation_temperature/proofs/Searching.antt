-- The ways through a search for the root of f, for any f: the ends of the bracket, a turn, the loop. Assumes nothing.
use Rattle.std.proofs.Common.{◌≡◌, ℕ, suc, ◌+◌, ◌-◌, ◌<◌, ◌≤◌, true, false, ◌||◌, arith}
use lib.Ieee.{Float, lt, le}
use Rattle.floats.specs.Arithmetic.{0f}
use Rattle.floats.specs.Small.{abs_of, middle}
use Rattle.floats.specs.Outcome.{Out, ok, no, bind, need, choose}
use Rattle.thermo_types.specs.declared.ActivityOptions.{ActivityOptions}
use Rattle.saturation_temperature.specs.Search.{Point, Root, step_of, collapsed, search_from, solve_temperature}
use Rattle.saturation_temperature.specs.declared.Bracket.{Bracket}

-- ---- the ends of the bracket, with f's points a and b there
module _ (f : Float → Out Point) (o : ActivityOptions) where
  pub low-no : {m : ℕ} → no m ≡ f o.minimum_temperature_k → no m ≡ solve_temperature f o
  unfolding solve_temperature bind
  low-no e = rw (← e)

  module _ {a : Point} (ea : ok a ≡ f o.minimum_temperature_k) where
    pub high-no : {m : ℕ} → no m ≡ f o.maximum_temperature_k → no m ≡ solve_temperature f o
    unfolding solve_temperature bind
    high-no e = rw (← ea, ← e)

    module _ {b : Point} (eb : ok b ≡ f o.maximum_temperature_k) {c : Float} (ec : c ≡ abs_of a.value) where
      pub low_found : le c o.tolerance ≡ true → ok (record { temperature = o.minimum_temperature_k; iterations = 0 }) ≡ solve_temperature f o
      unfolding solve_temperature bind choose
      low_found h = rw (← ea, ← eb, ← ec, h)

      module _ (h : le c o.tolerance ≡ false) {d : Float} (ed : d ≡ abs_of b.value) where
        pub high_found : le d o.tolerance ≡ true → ok (record { temperature = o.maximum_temperature_k; iterations = 0 }) ≡ solve_temperature f o
        unfolding solve_temperature bind choose
        high_found k = rw (← ea, ← eb, ← ec, h, ← ed, k)

        module _ (k : le d o.tolerance ≡ false) where
          pub unbracketed : (lt 0f a.value || lt b.value 0f) ≡ true → no 26 ≡ solve_temperature f o
          unfolding solve_temperature bind choose need
          unbracketed w = rw (← ea, ← eb, ← ec, h, ← ed, k, w)

          pub bracketed : {m : Float} → (lt 0f a.value || lt b.value 0f) ≡ false → m ≡ middle o.minimum_temperature_k o.maximum_temperature_k
              → search_from f o.tolerance (o.max_temperature_iterations - 0) 0 (record { lo = o.minimum_temperature_k; hi = o.maximum_temperature_k; next = m }) ≡ solve_temperature f o
          unfolding solve_temperature bind choose need
          bracketed w q =
              let z : o.max_temperature_iterations - 0 ≡ o.max_temperature_iterations = omega arith in
              rw (← ea, ← eb, ← ec, h, ← ed, k, w, q, z)

-- ---- after `done` turns of at most `limit`, in the bracket b: what is left to run from here is the whole run W
module _ (f : Float → Out Point) (tolerance : Float) (limit done : ℕ) (b : Bracket) {W : Out Root} (run : search_from f tolerance (limit - done) done b ≡ W) where
  pub search_out : limit ≤ done → no 27 ≡ W
  unfolding search_from
  search_out l =
      let z : limit - done ≡ 0 = omega arith in
      rw z at run

  module _ (l : done < limit) where
    left : search_from f tolerance (suc (limit - (done + 1))) done b ≡ W
    left =
        let z : limit - done ≡ suc (limit - (done + 1)) = omega arith in
        rw z at run

    pub turn-no : {m : ℕ} → no m ≡ f b.next → no m ≡ W
    unfolding search_from bind
    turn-no e = rw (← e) at left

    module _ {v : Point} (e : ok v ≡ f b.next) {c : Float} (ec : c ≡ abs_of v.value) where
      pub turn_found : le c tolerance ≡ true → ok (record { temperature = b.next; iterations = done + 1 }) ≡ W
      unfolding search_from bind choose
      turn_found h =
          let z : suc done ≡ done + 1 = omega arith in
          rw (← e, ← ec, h, z) at left

      module _ (h : le c tolerance ≡ false) {t : Bracket} (et : t ≡ step_of v b) where
        pub turn_collapsed : true ≡ collapsed t b.next → no 27 ≡ W
        unfolding search_from bind choose need
        turn_collapsed w = rw (← e, ← ec, h, ← et, ← w) at left

        pub turn_more : false ≡ collapsed t b.next → search_from f tolerance (limit - (done + 1)) (done + 1) t ≡ W
        unfolding search_from bind choose need
        turn_more w =
            let z : suc done ≡ done + 1 = omega arith in
            rw (← e, ← ec, h, ← et, ← w, z) at left
