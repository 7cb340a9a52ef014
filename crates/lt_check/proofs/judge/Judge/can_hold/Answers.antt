use Rattle.std.proofs.Common.{◌∙◌, ap, map, sym}
use Rattle.lt_space.specs.SpaceView.{loaded, space_formula}
use Rattle.lt_term.specs.Process.{with_constraints}
use Rattle.lt_term.specs.UnfoldingView.{instant_in}
use Rattle.lt_instant.specs.inner.DrawContextView.{scene_of, worth_of}
use Rattle.lt_check.specs.inner.JudgeView.{context_of}
use Rattle.lt_check.specs.inner.QuestionView.{kinds_in, meaning_in}
use Rattle.lt_check.specs.inner.SearcherView.{searcher_space}
use Rattle.lt_check.specs.inner.Searches.{can_hold}
use Rattle.lt_check.proofs.Judges.{lives_fault, lives_formula}
use Rattle.lt_check.proofs.judge.Judge.can_hold.Goals as goal

pub returns-in-Ok-search-clause-holds : goal.returns-in-Ok-search-clause-holds
returns-in-Ok-search-clause-holds c =
    let m = context_of c.args.question.now in
    let it = instant_in (kinds_in m) c.args.unfolded.now c.args.instant in
    let cs = c.deref.ensures.value ∙ c.in_ok-put_instant.ensures.constraints (kinds_in m) in
    let ls = c.deref-2.ensures.value ∙ c.in_ok-put_instant.ensures.locals (kinds_in m) in
    let ms = c.deref-in-Ok.ensures.value ∙ c.in_ok-put_instant.ensures.locals (kinds_in m) in
    let f = space_formula (searcher_space c.load.new.self) in
    lives_formula m ((worth_of m).formula it.locals (map (meaning_in m) it.constraints)) it.locals (with_constraints (meaning_in m) it.next) f c.in-Ok-search.can_hold
    (sym (ap (loaded f) c.in-Ok.is) ∙ c.in_ok-load.ensures.loads ∙ (λ i. (worth_of m).formula (ls i) (map (meaning_in m) (cs i))))
    (c.in-Ok-search.ensures.finds ∙ ap (λ l. can_hold (scene_of m) l f) ms)

pub returns-in-Err-clause-holds : goal.returns-in-Err-clause-holds
returns-in-Err-clause-holds c =
    let m = context_of c.args.question.now in
    let it = instant_in (kinds_in m) c.args.unfolded.now c.args.instant in
    let cs = c.deref.ensures.value ∙ c.in_ok-put_instant.ensures.constraints (kinds_in m) in
    let ls = c.deref-2.ensures.value ∙ c.in_ok-put_instant.ensures.locals (kinds_in m) in
    let f = space_formula (searcher_space c.load.new.self) in
    lives_fault m ((worth_of m).formula it.locals (map (meaning_in m) it.constraints)) it.locals (with_constraints (meaning_in m) it.next) c.in-Err.field-0
    (sym (ap (loaded f) c.in-Err.is) ∙ c.in_ok-load.ensures.loads ∙ (λ i. (worth_of m).formula (ls i) (map (meaning_in m) (cs i))))
