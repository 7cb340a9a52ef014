use Rattle.std.proofs.Common.{◌∙◌, IsTrue, List, subst, sym}
use Rattle.lt_num.specs.declared.range.Range.{Range}
use Rattle.lt_solver.specs.Domains.{are_domains}
use Rattle.lt_check.proofs.Scenes.{drawn_domains}
use Rattle.lt_check.proofs.searcher.Searcher.with_room.Goals as goal

pub make-requires-2-clause-domains : goal.make-requires-2-clause-domains
make-requires-2-clause-domains c =
    let P : List Range → Type 0 = λ rs. IsTrue (are_domains rs) in
    subst P (sym (c.deref.ensures.value ∙ c.in_ok-ranges.ensures)) (drawn_domains c.args.scenario.now)
