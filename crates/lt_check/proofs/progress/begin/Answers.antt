use Rattle.std.proofs.Common.{◌∙◌, [], ◌∷◌, ap}
use Rattle.lt_check.proofs.Behind.{first_behind, first_key}
use Rattle.lt_check.proofs.progress.begin.Goals as goal

pub returns-clause-begins : goal.returns-clause-begins
returns-clause-begins c =
    let sc = c.args.scenario.now in
    let only = first_key c.new-terms.result.keys c.insert.new.self.keys c.new.result c.new-terms.ensures.len c.in_ok-insert.ensures.keys in
    λ t.
    first_behind c.constraints_tell_terms.ensures sc c.len.ensures.each_once t c.args.budget _ c.in_ok-first.ensures.scenario c.in_ok-first.ensures.step c.in_ok-first.ensures.none c.in_ok-first.ensures.inputs c.in_ok-first.ensures.budget
    (only ∙ ap (λ p. p ∷ []) (c.new.ensures ∙ c.in_ok-clone.ensures.cases)) c.body_is_valid.ensures.within
