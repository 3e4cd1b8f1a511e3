-- The question with another pressure, its check right: its words, and how it is read. Assumes nothing.
use Prim.Native.Nat.{ℕ, ◌+◌, ◌*◌, ◌^◌, ◌≤◌, ◌<◌}
use mathlib.Core.Path.{◌≡◌, refl, sym, ap, ◌∙◌}
use mathlib.Core.Logic.{◌⊎◌, inl, inr}
use mathlib.Core.Bool.{Bool, true}
use mathlib.Core.List.{List, [], append-nil}
use native.Mathlib.Omega.{arith}
use borrow.Author.Tests.{eq-eqb}
use lib.Dec.{T, eqb}
use lib.ListN.{length, take, drop, length-append, length-take, length-drop}
use lib.Seq.{length-take-le}
use lib.Ieee.{Float, binary64, fits}
use lib.Ieee.Bits.{is_true, of_bits-to_bits, to_bits-lt}
use Rattle.floats.specs.Small.{float_of, float, bits_of, positive}
use Rattle.floats.specs.Vector.{zeros8}
use Rattle.floats.specs.Outcome.{Out, ok, bind, need}
use Rattle.floats.proofs.Fills.{fill_cong}
use Rattle.floats.proofs.Outcomes.{need_inv, bind_yes, bind_inv}
use Rattle.blocks.specs.declared.Rule.{Rule}
use Rattle.blocks.specs.Words.{byte, word, sum_by, check_right}
use Rattle.blocks.specs.Bytes.{bytes, put, block_bytes}
use Rattle.blocks.proofs.Laws.{length_bytes, word_bytes, block-check, sum_same}
use Rattle.blocks.proofs.Small.{block-bytes, word_small}
use Rattle.exchanges.proofs.Places.{put_before, put-inside, put-behind, word-by}
use Rattle.question.specs.declared.Question.{Question}
use Rattle.question.specs.Inputs.{needs_options, if_needed}
use Rattle.question.specs.Asked.{task_in, kind_right, fraction, feed_of, ratio, ratios_of, temperature_right, pressure_right, inputs_finite, ratios_positive, inputs_right, options_right, limits_some, limits_few, limits_right, moles_of, options_in, question_from, rest_of, question_of}
use Rattle.thermo_types.specs.Composition.{none_negative, sums_to_one}
use Rattle.floats.specs.Vector.{at}
use Rattle.distance.specs.Distance.{at_pressure}
use Rattle.distance.proofs.Central.{need_held}
use Rattle.distances.specs.First.{with_pressure}

-- a list with bs at an index is as long as it was
put-long : (l bs : List ℕ) (from : ℕ) → from + length bs ≤ length l → length (put l from bs) ≡ length l
put-long l bs from h =
    let e : length (take from l) ≡ from = length-take-le from l (omega arith) in
    rw (length-append, length-append, e, length-drop) (omega arith)

-- a check is the last word of a block, so it fits
check-small : (rule : Rule) (w : ℕ → ℕ) → sum_by rule w < 2 ^ 64
check-small rule w =
    let e : word (block_bytes rule w) 63 ≡ sum_by rule w = rw append-nil at (block-check rule w []) in
    rw (← e) ((word_small (block_bytes rule w) (block-bytes rule w)).fits 63)

-- questions 13 to 21, with the pressure p and its test b, of words w; y are the moles of the feed x, k the K values
unfoldable rest_with : (ℕ → ℕ) → Bool → Float → ℕ → List Float → List Float → Out (List Float) → Out Question
rest_with w b p n x k y =
    need (temperature_right w) 13
    (need b 14
    (need (inputs_finite w n x k) 15
    (need (none_negative (at x) n) 16
    (need (ratios_positive w n k) 17
    (need (sums_to_one (at x) n) 18
    (bind y (λ z.
    need (if_needed (needs_options (w 1)) (options_right w)) 19
    (need (limits_some w) 20
    (need (limits_few w) 21
    (ok (record { task = w 1; temperature = float w 2; pressure = p; fractions = z; options = options_in w; ratios = k })))))))))))

rest-with : (q : List ℕ) (m : ℕ → Float) (n : ℕ) (x : List Float) → rest_of q m n x ≡ rest_with (word q) (pressure_right (word q)) (float (word q) 3) n x (ratios_of q n) (moles_of (word q) m n x)
unfolding rest_of inputs_right limits_right question_from rest_with
rest-with q m n x = refl

same-value : {A : Type 0} {a b : A} → ok a ≡ ok b → a ≡ b
same-value e = cc

-- once it passed, another pressure is asked for its own test alone
rest_another : (w : ℕ → ℕ) (b b' : Bool) (p p' : Float) (n : ℕ) (x k : List Float) (y : Out (List Float)) {q : Question}
    → rest_with w b p n x k y ≡ ok q → rest_with w b' p' n x k y ≡ need b' 14 (ok (at_pressure q p'))
unfolding rest_with
rest_another w b b' p p' n x k y {q} e =
    let h13 = need_inv _ 13 _ e in
    let h14 = need_inv b 14 _ h13.1 in
    let h15 = need_inv _ 15 _ h14.1 in
    let h16 = need_inv _ 16 _ h15.1 in
    let h17 = need_inv _ 17 _ h16.1 in
    let h18 = need_inv _ 18 _ h17.1 in
    let z = bind_inv y _ h18.1 in
    let h19 = need_inv _ 19 _ z.2 in
    let h20 = need_inv _ 20 _ h19.1 in
    let h21 = need_inv _ 21 _ h20.1 in
    let same = ap (λ (u : Question). at_pressure u p') (same-value h21.1) in
    need_held _ 13 _ h13.0
    ∙ ap (need b' 14)
    (need_held _ 15 _ h15.0 ∙ need_held _ 16 _ h16.0 ∙ need_held _ 17 _ h17.0 ∙ need_held _ 18 _ h18.0 ∙ bind_yes _ z.1
    ∙ need_held _ 19 _ h19.0 ∙ need_held _ 20 _ h20.0 ∙ need_held _ 21 _ h21.0 ∙ ap ok same)

module _ (rule : Rule) (p : Float) (fit : T (fits binary64 p)) (question : List ℕ) (size : length question ≡ 512) where
  pressed : List ℕ
  pressed = put question 24 (bytes (bits_of p))

  pressed-long : length pressed ≡ 512
  unfolding pressed
  pressed-long = put-long question (bytes (bits_of p)) 24 (omega (arith, length_bytes (bits_of p))) ∙ size

  pressed-here : word pressed 3 ≡ bits_of p
  unfolding word pressed
  pressed-here =
      word-by (bytes (bits_of p)) pressed 24 0 (λ i m.
      let z : 0 + i ≡ i = omega arith in
      put-inside question (bytes (bits_of p)) 24 (omega arith) i (omega (arith, length_bytes (bits_of p))) ∙ ap (λ (x : ℕ). byte (bytes (bits_of p)) x) (sym z))
      ∙ word_bytes (bits_of p) (to_bits-lt binary64 p fit)

  pressed-other : (j : ℕ) → (j < 3) ⊎ (4 ≤ j) → word pressed j ≡ word question j
  unfolding word pressed
  pressed-other j (inl h) = word-by question pressed (8 * j) (8 * j) (λ i m. put_before question (bytes (bits_of p)) 24 (omega arith) (8 * j + i) (omega arith))
  pressed-other j (inr h) = word-by question pressed (8 * j) (8 * j) (λ i m. put-behind question (bytes (bits_of p)) 24 (omega arith) (8 * j + i) (omega (arith, length_bytes (bits_of p))))

  -- ---- with the check
  check : ℕ
  check = sum_by rule (word pressed)

  asked : List ℕ
  asked = with_pressure rule p question

  asked-long : length asked ≡ 512
  unfolding asked with_pressure pressed check
  asked-long = put-long pressed (bytes check) 504 (omega (arith, length_bytes check, pressed-long)) ∙ pressed-long

  asked-front : (j : ℕ) → j < 63 → word asked j ≡ word pressed j
  unfolding word asked with_pressure pressed check
  asked-front j l = word-by pressed asked (8 * j) (8 * j) (λ i m. put_before pressed (bytes check) 504 (omega (arith, pressed-long)) (8 * j + i) (omega arith))

  asked-check : word asked 63 ≡ check
  unfolding word asked with_pressure pressed check
  asked-check =
      word-by (bytes check) asked 504 0 (λ i m.
      let z : 0 + i ≡ i = omega arith in
      put-inside pressed (bytes check) 504 (omega (arith, pressed-long)) i (omega (arith, length_bytes check)) ∙ ap (λ (x : ℕ). byte (bytes check) x) (sym z))
      ∙ word_bytes check (check-small rule (word pressed))

  check-right : check_right rule (word asked) ≡ true
  unfolding check_right check
  check-right = eq-eqb _ _ (sum_same rule (word asked) (word pressed) asked-front ∙ sym asked-check)

  asked-pressure : float (word asked) 3 ≡ p
  asked-pressure = ap float_of (asked-front 3 (omega arith) ∙ pressed-here) ∙ of_bits-to_bits binary64 p fit

  asked-same : (j : ℕ) → j < 63 → (j < 3) ⊎ (4 ≤ j) → word asked j ≡ word question j
  asked-same j l h = asked-front j l ∙ pressed-other j h

  low : (j : ℕ) → j < 3 → word asked j ≡ word question j
  low j h = asked-same j (omega arith) (inl h)

  high : (j : ℕ) → 4 ≤ j → j < 63 → word asked j ≡ word question j
  high j h l = asked-same j l (inr h)

  pub task-word : word (with_pressure rule p question) 1 ≡ word question 1
  unfolding asked
  task-word = low 1 (omega arith)

  -- ---- how it is read, for a book of that version and n solvents with the molar masses m
  module _ (n : ℕ) (few : n ≤ 8) where
    feed-same : feed_of asked n ≡ feed_of question n
    feed-same = fill_cong (fraction (word asked)) (fraction (word question)) n zeros8 (λ i l. ap float_of (high (4 + i) (omega arith) (omega arith)))

    ratios-same : ratios_of asked n ≡ ratios_of question n
    ratios-same = fill_cong (ratio (word asked)) (ratio (word question)) n zeros8 (λ i l. ap float_of (high (19 + i) (omega arith) (omega arith)))

    moles-same : (m : ℕ → Float) (x : List Float) → moles_of (word asked) m n x ≡ moles_of (word question) m n x
    unfolding moles_of
    moles-same m x = rw (high 27 (omega arith) (omega arith))

    with-same : (b : Bool) (v : Float) (x k : List Float) (y : Out (List Float)) → rest_with (word asked) b v n x k y ≡ rest_with (word question) b v n x k y
    unfolding rest_with options_right options_in
    with-same b v x k y =
        rw (
          low 1 (omega arith),
          low 2 (omega arith),
          high 12 (omega arith) (omega arith),
          high 13 (omega arith) (omega arith),
          high 14 (omega arith) (omega arith),
          high 15 (omega arith) (omega arith),
          high 16 (omega arith) (omega arith),
          high 17 (omega arith) (omega arith),
          high 18 (omega arith) (omega arith),
        )

    rest-same : word question 1 ≡ 7 → (m : ℕ → Float) {q : Question} → rest_of question m n (feed_of question n) ≡ ok q
        → rest_of asked m n (feed_of asked n) ≡ need (positive p) 14 (ok (at_pressure q p))
    rest-same seven m {q} e =
        let b : pressure_right (word asked) ≡ positive p = rw (low 1 (omega arith), seven, asked-pressure) in
        rest-with asked m n (feed_of asked n)
        ∙ rw (feed-same, ratios-same, moles-same m (feed_of question n), b, asked-pressure)
        (with-same (positive p) p (feed_of question n) (ratios_of question n) (moles_of (word question) m n (feed_of question n))
        ∙ rest_another (word question) (pressure_right (word question)) (positive p) (float (word question) 3) p n (feed_of question n) (ratios_of question n)
        (moles_of (word question) m n (feed_of question n)) (sym (rest-with question m n (feed_of question n)) ∙ e))

    task-same : {t : ℕ} → task_in rule question ≡ ok t → task_in rule asked ≡ ok t
    unfolding task_in
    task-same e =
        let c = is_true (check_right rule (word question)) (need_inv (check_right rule (word question)) 11 _ (need_inv (eqb (length question) 512) 11 _ e).1).0 in
        rw (asked-long, check-right, low 0 (omega arith), low 1 (omega arith)) (rw (size, c) at e)

    kind-same : (version : ℕ) → kind_right version (word asked) ≡ kind_right version (word question)
    unfolding kind_right
    kind-same version = rw (high 27 (omega arith) (omega arith))

    pub question-at : word question 1 ≡ 7 → (version : ℕ) (m : ℕ → Float) {q : Question} → question_of rule question version m n ≡ ok q
        → question_of rule (with_pressure rule p question) version m n ≡ need (positive p) 14 (ok (at_pressure q p))
    unfolding question_of asked
    question-at seven version m e =
        let t = bind_inv (task_in rule question) _ e in
        let k = need_inv (kind_right version (word question)) 36 _ t.2 in
        bind_yes _ (task-same t.1) ∙ rw (kind-same version) (need_held (kind_right version (word question)) 36 _ k.0 ∙ rest-same seven m k.1)
