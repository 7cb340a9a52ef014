use Rattle.std.proofs.Common.{◌∙◌, ap, map}
use Rattle.lt_space.specs.Meaning.{formula_of_all}
use Rattle.lt_instant.specs.inner.DrawContextView.{meaning_of, valuation_with}
use Rattle.lt_check.proofs.Scenes.{table_kinds-view}
use Rattle.lt_check.proofs.searcher.Searcher.load.Goals as goal

pub returns-clause-loads : goal.returns-clause-loads
returns-clause-loads c =
    let m = c.args.context.now in
    let s = m.scenario.now in
    let known = c.known-known.ensures.known ∙ ap (valuation_with m) c.find.ensures.locals in
    c.load.ensures.loads ∙ (λ i. formula_of_all (known i) (table_kinds-view s i) (map (meaning_of s.table) c.args.constraints.now))
