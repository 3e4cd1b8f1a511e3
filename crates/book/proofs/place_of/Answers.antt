-- `book::place_of` meets its contract. Assumes nothing.
use Rattle.std.proofs.Common.{◌≡◌, ℕ, Bool, sym, ◌∙◌, rules, ap}
use borrow.Author.Tests.{tests}
use Rattle.blocks.specs.Words.{check_right}
use Rattle.outcome.specs.Refused.{number}
use Rattle.book.specs.Places.{words_in}
use Rattle.book.specs.Book.{rule_in}
use Rattle.book.specs.Place.{block_behind}
use Rattle.book.proofs.Places.{place_asked, no_place, not_two}
use Rattle.book.proofs.place_of.Goals as goal

pub returns-in_default : goal.returns-in_default
returns-in_default c = sym (no_place c.args.book.now (number c.args.refusal) c.in_default.ensures)

pub returns-in-BookCheck : goal.returns-in-BookCheck
returns-in-BookCheck c =
    let s = c.in-Some.blocks.now in
    let test : (k : ℕ) (b : Bool) → b ≡ check_right c.rule_in-rule.result (words_in s k) → b ≡ check_right (rule_in (words_in s 0)) (words_in s k) =
    λ k b e. e ∙ ap (λ r. check_right r (words_in s k)) c.rule_in-rule.ensures in
    let h = c.lowest.ensures.first (λ k. check_right (rule_in (words_in s 0)) (words_in s k)) (λ k b l p. test k b (search (rules, tests))) in
    rw (c.in-BookCheck.is, place_asked 2 c.in-Some.ensures) (c.block_behind.ensures ∙ ap (block_behind 0) h)

pub returns-in-Some-shaped : goal.returns-in-Some-shaped
returns-in-Some-shaped c =
    rw (place_asked (number c.args.refusal) c.in-Some.ensures, not_two c.args.refusal c.in_default-refusal.not-BookCheck, c.in-Some-shaped.ensures.0)
    (rw (c.in-Some-shaped.ensures.1, c.in-Some-shaped.ensures.2) at c.place_in.ensures)

pub returns-in-None : goal.returns-in-None
returns-in-None c = rw (place_asked (number c.args.refusal) c.in-Some.ensures, not_two c.args.refusal c.in_default-refusal.not-BookCheck, c.in-None.ensures)
