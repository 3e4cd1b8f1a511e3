-- The questions of a book put to the sample books, and what is left of a call after them. Assumes nothing.
use Prim.Native.Nat.{ℕ}
use mathlib.Core.Path.{◌≡◌, refl}
use mathlib.Core.List.{List}
use lib.Ieee.{of_bits, lt, le, eq, size}
use Rattle.blocks.specs.declared.Rule.TheVariants.{Plain, Running}
use Rattle.blocks.specs.Words.{word, block, check_sum, running_sum, sum_by, check_right}
use Rattle.blocks.specs.Bytes.{bytes, row_to, block_bytes}
use Rattle.floats.specs.Small.{is_finite, positive}
use Rattle.floats.specs.Fold.{all_to}
use Rattle.floats.specs.Outcome.{Out, ok, no, bind, need}
use Rattle.book.specs.Places.{row_from}
use Rattle.book.specs.Book.{floats_finite, version_right, head_right, solvent_right, range_right, record_right, records_right, masses_right, cas_new, pair_right, row_right, parameters_finite, bounds_finite, pair_finite, alphas_equal}
use Rattle.book.specs.declared.Model.{Model}
use Rattle.book.specs.declared.Model.TheVariants.{Nrtl, Wilson}
use Rattle.book.specs.Book.{model_right, model_in, head_in, pairs_of, solvents_of, head_of, rule_in, rule_of, book_of}
use Rattle.book.specs.declared.Head.{Head}
use Rattle.replies.specs.Blocks.{answer_room, refusal_bytes}
use Rattle.sheet.specs.Sheet.{sheet_from, sheet_of, reply_of, reply_to}
use Rattle.samples.specs.Sheets.{½, book1, book2, wide, book2-weighed, book1_of, wilson1, wilson2}
use Rattle.samples.specs.Absent.{book3}

pub answered : (book question : List ℕ) {h : Head} {o : Out (List ℕ)} → book_of book ≡ ok h → sheet_from book h.version h.n question answer_room ≡ o → sheet_of book question answer_room ≡ o
unfolding sheet_of bind
answered book question e h = rw e h

pub unopened : (book question : List ℕ) {r : ℕ} → book_of book ≡ no r → sheet_of book question answer_room ≡ no r
unfolding sheet_of bind
unopened book question e = rw e

pub unsent : (book question : List ℕ) {r : ℕ} {b : List ℕ} → book_of book ≡ no r → refusal_bytes (rule_of book) question r ≡ b → reply_to book question ≡ b
unfolding reply_of reply_to
unsent book question e h = rw (unopened book question e) h

-- a book of a model, a version and n solvents
abbrev Is : List ℕ → Model → ℕ → ℕ → Type 0
Is book model version n = book_of book ≡ ok (record { n = n; version = version; model = model })

pub record BooksOpened : Type 0 where
  pub solvents1 : Is book1 Nrtl 1 1
  pub solvents2 : Is book2 Nrtl 1 2
  pub solvents3 : Is book3 Nrtl 1 3
  pub wide : Is wide Nrtl 1 2
  pub weighed : Is (book2-weighed ½ ½) Nrtl 2 2
  pub weightless : book_of (book2-weighed ½ 0) ≡ no 35
  pub running : Is (book1_of Running 3) Nrtl 3 1
  pub unknown : book_of (book1_of Plain 4) ≡ no 38
  pub wilson_one : Is (wilson1 2) Wilson 2 1
  pub wilson_two : Is (wilson2 2) Wilson 2 2
  pub unmodelled : book_of (wilson1 1) ≡ no 37

pub opened : BooksOpened
unfolding of_bits lt le eq size word block check_sum running_sum sum_by check_right bytes row_to block_bytes is_finite positive all_to need row_from floats_finite version_right head_right solvent_right range_right
    record_right records_right masses_right cas_new pair_right row_right parameters_finite bounds_finite pair_finite alphas_equal model_right model_in head_in pairs_of solvents_of head_of rule_in rule_of book_of
opened = record {
  solvents1 = refl;
  solvents2 = refl;
  solvents3 = refl;
  wide = refl;
  weighed = refl;
  weightless = refl;
  running = refl;
  unknown = refl;
  wilson_one = refl;
  wilson_two = refl;
  unmodelled = refl;
}
