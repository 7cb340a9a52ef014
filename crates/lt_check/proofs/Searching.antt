-- What is searched.
use Rattle.std.proofs.Common.{◌≡◌, ◌<◌, ℕ, suc, replicate, Bool, true, false, List, [], ◌∷◌, ◌++◌, length, map, ℤ, pos, ◌+ℤ◌, ◌*ℤ◌, refl, ap, sym, ◌∙◌, subst, arith}
use Rattle.std.specs.Prelude.{Contains}
use Rattle.std.proofs.lemmas.Int.{ints}
use Rattle.std.proofs.lemmas.List.{length-map}
use Rattle.lt_formula.specs.Solution.{IsPointOf, first_solution}
use Rattle.lt_num.proofs.Public.{points_are_those}
use Rattle.lt_num.specs.Range.{HasPoints, points_of}
use Rattle.lt_num.specs.declared.range.Range.{Range}
use Rattle.lt_solver.specs.Answers.{AnswersSay, Tells}
use Rattle.lt_solver.specs.declared.answering.Answer.TheVariants as answer
use Rattle.lt_space.specs.Formula.{Formula}
use Rattle.lt_space.specs.Scope.{ranges_in}
use Rattle.lt_term.specs.Scene.{Scene, Variable}
use Rattle.lt_term.specs.SceneView.{scene, variable}
use Rattle.lt_term.specs.declared.scenario.Scenario.{Scenario}
use Rattle.lt_term.specs.declared.variable.Var.{Var}
use Rattle.lt_term.specs.Tree.{Lasts}
use Rattle.lt_instant.specs.Legal.{SolutionsPass}
use Rattle.lt_instant.specs.Solved.{CanHold, drawn_ranges, holds_of, marks_from, need_of, ranges_at, ranges_of_all, scope_of}
use Rattle.lt_check.specs.inner.Kinded.{HaveRanges}
use Rattle.lt_check.specs.inner.Searches.{can_hold, lows_of}
use Rattle.lt_check.proofs.Semantics.{can_hold_tells}

-- the low end of a range is a point of it
low_is : (low step : ℤ) → low ≡ low +ℤ step *ℤ pos 0
low_is low step = omega (arith, ints)

low_point : (r : Range) → HasPoints r → Contains (points_of r) r.low
low_point r h = ((points_are_those r h).0 r.low).1 (0, low_is r.low r.step, h.some)

-- each of these ranges has points
abbrev pub AllHave : List Range → Type 0
AllHave [] = Unit {0}
AllHave (r ∷ rs) = HasPoints r × AllHave rs

pub lows_point : (rs : List Range) → AllHave rs → IsPointOf rs (lows_of rs)
lows_point [] h = tt
lows_point (r ∷ rs) h = (low_point r h.0, lows_point rs h.1)

all_have : (ys : List Variable) → HaveRanges ys → AllHave (ranges_of_all ys)
all_have [] k = tt
all_have (y ∷ ys) k = (k.0, all_have ys k.1)

pub both_have : (xs ys : List Variable) → HaveRanges xs → HaveRanges ys → AllHave (ranges_of_all xs ++ ranges_of_all ys)
both_have [] ys h k = all_have ys k
both_have (x ∷ xs) ys h k = (h.0, both_have xs ys h.1 k)

pub vars_have : (vs : List Var) → HaveRanges (map variable vs)
vars_have [] = tt
vars_have (v ∷ vs) = (v.sound.points, vars_have vs)

pub ranges_have : (s : Scenario) → AllHave (drawn_ranges (scene s))
ranges_have s = both_have (scene s).outputs (scene s).locals (vars_have s.outputs.items) (vars_have s.locals.items)

-- ---- what a search finds

module _ (say : AnswersSay) (pass : SolutionsPass) (s : Scene) (budget : ℕ) (ls : Lasts) (f : Formula) where
  unsat_is : (b : Bool) → b ≡ can_hold s ls f → (CanHold s f ls → ⊥) → false ≡ can_hold s ls f
  unsat_is true e none = absurd (none ((can_hold_tells pass s ls f).0 (sym e)))
  unsat_is false e none = e

  pub solution_found : (values lows : List ℤ) → length lows ≡ length (ranges_at s ls) → Tells answer.Solution values (first_solution (holds_of s f) (ranges_at s ls) lows []) (need_of s ls f) budget → true ≡ can_hold s ls f
  solution_found values lows long tells =
      let r = say answer.Solution values (holds_of s f) (ranges_at s ls) lows [] (need_of s ls f) budget long tells in
      sym ((can_hold_tells pass s ls f).1 (values, r.0, r.1))

  pub unsat_found : (values lows : List ℤ) → length lows ≡ length (ranges_at s ls) → Tells answer.Unsat values (first_solution (holds_of s f) (ranges_at s ls) lows []) (need_of s ls f) budget → false ≡ can_hold s ls f
  unsat_found values lows long tells = unsat_is (can_hold s ls f) refl (say answer.Unsat values (holds_of s f) (ranges_at s ls) lows [] (need_of s ls f) budget long tells)

  pub budget_found : (n : ℕ) (values lows : List ℤ) → Tells (answer.Budget n) values (first_solution (holds_of s f) (ranges_at s ls) lows []) (need_of s ls f) budget → (budget < n) × (need_of s ls f ≡ n)
  budget_found n values lows tells = (subst (λ k. budget < k) (sym tells.1) tells.0, sym tells.1)

-- there are as many low ends as ranges of an instant
lows_long : (marks : List Bool) (rs : List Range) → length (lows_of rs) ≡ length (ranges_in marks rs)
lows_long [] [] = refl
lows_long (mark ∷ marks) [] = refl
lows_long [] (r ∷ rs) = ap suc (lows_long [] rs)
lows_long (mark ∷ marks) (r ∷ rs) = ap suc (lows_long marks rs)

pub scope_long : (s : Scene) (ls : Lasts) → length (lows_of (drawn_ranges s)) ≡ length (ranges_at s ls)
scope_long s ls = lows_long (scope_of s ls) (drawn_ranges s)

-- the marks of a scenario's variables
pub marks_are : (s : Scenario) (ls : Lasts) (n : ℕ) (locals : List Var) → n ≡ length s.outputs.items → locals ≡ s.locals.items → replicate n true ++ marks_from ls 0 (map variable locals) ≡ scope_of (scene s) ls
marks_are s ls n locals e h = λ i. replicate ((e ∙ sym (length-map s.outputs.items variable)) i) true ++ marks_from ls 0 (map variable (h i))
