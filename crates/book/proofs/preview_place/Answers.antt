-- `book::preview_place` meets its contract. Assumes nothing.
use Rattle.std.proofs.Common.{sym, ◌∙◌}
use Rattle.outcome.specs.Refused.{number}
use Rattle.book.proofs.Places.{past_refused, past_accepted, offered_number, other_number}
use Rattle.book.proofs.preview_place.Goals as goal

pub returns-then-is_err : goal.returns-then-is_err
returns-then-is_err c = c.place_of.ensures ∙ sym (past_refused _ _ _ c.open_book.ensures c.if-is_err.ensures.value)

pub returns-in-BookLength : goal.returns-in-BookLength
returns-in-BookLength c = rw (past_accepted c.args.book.now (number c.args.refusal) _ c.open_book.ensures c.if-is_err.ensures.value, offered_number c.args.refusal c.in-BookLength.is)

pub returns-in_default : goal.returns-in_default
returns-in_default c =
    let d = c.in_default in
    rw (past_accepted c.args.book.now (number c.args.refusal) _ c.open_book.ensures c.if-is_err.ensures.value, other_number c.args.refusal d.not-BookLength d.not-BookCheck d.not-PairBlock d.not-PairNumber d.not-PairAlphas)
