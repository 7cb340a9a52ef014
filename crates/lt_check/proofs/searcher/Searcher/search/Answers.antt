use Rattle.std.proofs.Common.{◌≡◌, ◌∙◌, ℕ, ℤ, Bool, List, [], arith, subst, sym}
use Rattle.lt_formula.specs.Solution.{IsPointOf, first_solution}
use Rattle.lt_need.specs.Need.{need}
use Rattle.lt_num.specs.declared.range.Range.{Range}
use Rattle.lt_solver.specs.Answers.{Tells}
use Rattle.lt_solver.specs.WorkspaceView.{workspace_ranges, workspace_values}
use Rattle.lt_solver.specs.declared.answering.Answer.{Answer}
use Rattle.lt_solver.specs.declared.answering.Answer.TheVariants as answer
use Rattle.lt_space.specs.Formula.{Formula, holds}
use Rattle.lt_space.specs.Scope.{ranges_in}
use Rattle.lt_space.specs.SpaceView.{space_decimals, space_formula}
use Rattle.lt_term.specs.Scene.{Scene}
use Rattle.lt_term.specs.SceneView.{scene}
use Rattle.lt_term.specs.Tree.{Lasts}
use Rattle.lt_instant.specs.Solved.{drawn_ranges, holds_of, need_of, ranges_at, scope_of}
use Rattle.lt_check.specs.inner.Searches.{lows_of}
use Rattle.lt_check.proofs.Searching.{lows_point, marks_are, ranges_have, scope_long, solution_found, unsat_found, budget_found}
use Rattle.lt_check.proofs.searcher.Searcher.search.Goals as goal

pub first_from-answer-requires-clause-points : goal.first_from-answer-requires-clause-points
first_from-answer-requires-clause-points c =
    let s = c.args.scenario.now in
    let P : List Range → Type 0 = λ rs. IsPointOf rs c.deref-3.result.now in
    subst P (sym c.requires.searcher.ranges) (subst (λ (vs : List ℤ). IsPointOf (drawn_ranges (scene s)) vs) (sym (c.deref-3.ensures.value ∙ c.requires.searcher.lows)) (lows_point (drawn_ranges (scene s)) (ranges_have s)))

-- what an answer tells of a scene, by what it tells of its parts
told_of : (s : Scene) (ls : Lasts) (f : Formula) (a : Answer) (values lows targets : List ℤ) (decimals budget : ℕ) (marks : List Bool) (rs : List Range) → decimals ≡ s.decimals → marks ≡ scope_of s ls → rs ≡ drawn_ranges s → targets ≡ lows
    → Tells a values (first_solution (λ vs. holds decimals vs f) (ranges_in marks rs) targets []) (need f marks rs) budget
    → Tells a values (first_solution (holds_of s f) (ranges_at s ls) lows []) (need_of s ls f) budget
told_of s ls f a values lows targets decimals budget marks rs d m r t tells =
    let P : ℕ → List Bool → List Range → List ℤ → Type 0 = λ n bs qs ts. Tells a values (first_solution (λ vs. holds n vs f) (ranges_in bs qs) ts []) (need f bs qs) budget in
    subst (λ n. P n (scope_of s ls) (drawn_ranges s) lows) d
    (subst (λ bs. P decimals bs (drawn_ranges s) lows) m
    (subst (λ qs. P decimals marks qs lows) r
    (subst (λ ts. P decimals marks rs ts) t tells)))

-- what the search of a leaf answers, by the answer
pub returns-in-Solution-clause-finds : goal.returns-in-Solution-clause-finds
returns-in-Solution-clause-finds c =
    let s = scene c.args.scenario.now in
    let ls = c.args.lasts.now in
    let f = space_formula c.args.self.now.space in
    let lows = lows_of (drawn_ranges s) in
    let values = workspace_values c.first_from-answer.new.self in
    solution_found c.answers_say.ensures c.solutions_pass.ensures s c.args.budget ls f values lows (scope_long s ls)
    (told_of s ls f answer.Solution values lows c.deref-3.result.now (space_decimals c.args.self.now.space) c.args.budget c.deref-2.result.now (workspace_ranges c.args.self.now.workspace) c.requires.decimals (c.deref-2.ensures.value ∙ c.put_scope.ensures.items ∙ marks_are c.args.scenario.now ls c.len.result c.deref.result.now (omega (arith, c.len.ensures)) c.deref.ensures.value) c.requires.searcher.ranges (c.deref-3.ensures.value ∙ c.requires.searcher.lows) c.in-Solution.ensures.tells)

pub returns-in-Unsat-clause-finds : goal.returns-in-Unsat-clause-finds
returns-in-Unsat-clause-finds c =
    let s = scene c.args.scenario.now in
    let ls = c.args.lasts.now in
    let f = space_formula c.args.self.now.space in
    let lows = lows_of (drawn_ranges s) in
    let values = workspace_values c.first_from-answer.new.self in
    unsat_found c.answers_say.ensures c.solutions_pass.ensures s c.args.budget ls f values lows (scope_long s ls)
    (told_of s ls f answer.Unsat values lows c.deref-3.result.now (space_decimals c.args.self.now.space) c.args.budget c.deref-2.result.now (workspace_ranges c.args.self.now.workspace) c.requires.decimals (c.deref-2.ensures.value ∙ c.put_scope.ensures.items ∙ marks_are c.args.scenario.now ls c.len.result c.deref.result.now (omega (arith, c.len.ensures)) c.deref.ensures.value) c.requires.searcher.ranges (c.deref-3.ensures.value ∙ c.requires.searcher.lows) c.in-Unsat.ensures.tells)

pub returns-in-Budget-clause-finds : goal.returns-in-Budget-clause-finds
returns-in-Budget-clause-finds c =
    let s = scene c.args.scenario.now in
    let ls = c.args.lasts.now in
    let f = space_formula c.args.self.now.space in
    let lows = lows_of (drawn_ranges s) in
    let values = workspace_values c.first_from-answer.new.self in
    budget_found c.answers_say.ensures c.solutions_pass.ensures s c.args.budget ls f c.in-Budget.need values lows
    (told_of s ls f (answer.Budget c.in-Budget.need) values lows c.deref-3.result.now (space_decimals c.args.self.now.space) c.args.budget c.deref-2.result.now (workspace_ranges c.args.self.now.workspace) c.requires.decimals (c.deref-2.ensures.value ∙ c.put_scope.ensures.items ∙ marks_are c.args.scenario.now ls c.len.result c.deref.result.now (omega (arith, c.len.ensures)) c.deref.ensures.value) c.requires.searcher.ranges (c.deref-3.ensures.value ∙ c.requires.searcher.lows) c.in-Budget.ensures.tells)
