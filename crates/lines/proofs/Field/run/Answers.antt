use Rattle.std.proofs.Common.{◌∙◌, rules}
use borrow.Author.Tests.{tests}
use Rattle.std.proofs.lemmas.Iterator.{YieldsList-from_slice, YieldsList-from_take}
use Rattle.std.proofs.lemmas.Iterator.Consumers.{count_from_yields_List}
use Rattle.std.proofs.lemmas.Iterator.Search.{YieldsList-from_take_while}
use Rattle.lines.specs.Grammar.{fits, most}
use Rattle.lines.proofs.Runs.{length_run}
use Rattle.lines.proofs.Field.run.Goals as goal

pub returns-clause-value : goal.returns-clause-value
returns-clause-value c =
    let f = c.args.self in
    let s = c.args.text.now in
    count_from_yields_List _ _ c.count.ensures.ran
    (YieldsList-from_take_while _ (fits f) (YieldsList-from_take (most f) (YieldsList-from_slice s cc) cc) c.take_while.ensures.closure c.take_while.ensures.done (λ x b q k. search (rules, tests)))
    ∙ length_run f (most f) s
