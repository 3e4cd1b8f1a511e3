-- `sentences::write` meets its contract: the tests in their order, and then the sentence. Assumes nothing.
use Rattle.std.proofs.Common.{refl, sym}
use borrow.Author.Tests.{le-leb, lt-leb}
use Rattle.floats.specs.Outcome.{need}
use Rattle.sentences.specs.Sentence.{sentence_to}
use Rattle.sentences.proofs.Fits.{sentence_fits}
use Rattle.sentences.proofs.Kept.{not_written, written, kept_refused}
use Rattle.sentences.proofs.write.Goals as goal

pub returns-then-not-is_refusal : goal.returns-then-not-is_refusal
unfolding sentence_to need
returns-then-not-is_refusal c = not_written _ _ _ (rw (sym c.if-not-is_refusal.ensures) refl)

pub returns-in_default : goal.returns-in_default
unfolding sentence_to need
returns-in_default c = not_written _ _ _ (rw (sym c.if-not-is_refusal.ensures, lt-leb _ _ c.in_default.ensures.cases) refl)

pub compose-requires : goal.compose-requires
compose-requires c = kept_refused _ _ _ (sym c.if-not-is_refusal.ensures) c.kept_place.ensures.kept c.kept_place.ensures.words

pub returns : goal.returns
unfolding sentence_to need
returns c =
    let f = c.in-Some.ensures.cases in
    let s = sentence_fits _ _ (kept_refused _ _ _ (sym c.if-not-is_refusal.ensures) c.kept_place.ensures.kept c.kept_place.ensures.words) in
    written _ _ _ _ 160 _ (rw (sym c.if-not-is_refusal.ensures, le-leb _ _ f.enough, c.kept_place.ensures.kept) refl) f.same f.enough s c.compose.ensures
