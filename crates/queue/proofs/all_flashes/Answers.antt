-- `queue::all_flashes` meets its contract: the test of every index. Assumes nothing.
use mathlib.Core.Path.{refl}
use borrow.Author.Tests.{tests}
use Rattle.std.proofs.Common.{rules}
use Rattle.floats.proofs.Chains.{all_of_range}
use Rattle.blocks.specs.Words.{block}
use Rattle.question.specs.Asked.{task_in}
use Rattle.queue.specs.Queue.{question_count, is_flash}
use Rattle.queue.proofs.all_flashes.Goals as goal

pub returns : goal.returns
returns c = all_of_range (λ k. is_flash (task_in c.args.rule (block c.args.questions.now k))) (question_count c.args.questions.now) refl c.all.ensures.ran (λ x q k. search (rules, tests)) (λ x q k. search (rules, tests))
