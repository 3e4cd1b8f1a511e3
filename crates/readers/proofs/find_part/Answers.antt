-- `readers::find_part` meets its contract. Each return is one law of the tests that led there. Assumes nothing.
use Rattle.readers.proofs.Laws.{kind_not, too_many, too_short, other-kind, part-found}
use Rattle.readers.proofs.find_part.Goals as goal

pub returns-then-word-ne9 : goal.returns-then-word-ne9
returns-then-word-ne9 c = kind_not _ c.word.ensures c.if-word-ne9.true

pub returns-then-trials-gt8 : goal.returns-then-trials-gt8
returns-then-trials-gt8 c = too_many _ c.word.ensures c.if-word-ne9.false c.word-trials.ensures c.if-trials-gt8.true

pub returns-then-s-bytes : goal.returns-then-s-bytes
returns-then-s-bytes c = too_short _ c.word.ensures c.if-word-ne9.false c.word-trials.ensures c.if-trials-gt8.false c.if-s-bytes.true

pub returns-then-not-trials_right : goal.returns-then-not-trials_right
returns-then-not-trials_right c =
    other-kind _ c.word.ensures c.if-word-ne9.false c.word-trials.ensures c.if-trials-gt8.false c.if-s-bytes.false c.if-not-trials_right.ensures

pub returns : goal.returns
returns c = part-found _ c.word.ensures c.if-word-ne9.false c.word-trials.ensures c.if-trials-gt8.false c.if-s-bytes.false c.if-not-trials_right.ensures
