use Rattle.std.proofs.Common.{◌+◌, ap, sym, ◌∙◌, arith}
use Rattle.std.proofs.lemmas.Result.{IfOk-weaker}
use Rattle.lt_macros.specs.inner.Counting.{pending_figure, waiting}
use Rattle.lt_macros.specs.inner.Numbers.{numbers_view}
use Rattle.lt_macros.specs.inner.Tallies.{counted}
use Rattle.lt_macros.proofs.Waiting.{joined_read, reads}
use Rattle.lt_macros.proofs.counting.put_trace.Goals as goal

pub returns-in-Joined-clause-figures : goal.returns-in-Joined-clause-figures
returns-in-Joined-clause-figures c =
    IfOk-weaker c.put_two.result _ _
    (λ _ figures decimals rows f.
    figures decimals rows f
    ∙ ap (λ figure. counted c.args.count.now.tally f + figure)
    (sym (joined_read decimals rows f c.args.depth c.args.len c.in-Joined.join c.in-Joined.first c.in-Joined.rest c.in-Joined.environment c.args.form (pending_figure decimals rows f (waiting c.args.count.now)) (numbers_view c.args.count.now.numbers) c.in-Joined.is c.requires)))
    c.put_two.ensures.figures

pub returns-in-Choice-clause-figures : goal.returns-in-Choice-clause-figures
returns-in-Choice-clause-figures c = grind (arith, reads)

pub returns-in-Exist-clause-figures : goal.returns-in-Exist-clause-figures
returns-in-Exist-clause-figures c = grind (arith, reads)
