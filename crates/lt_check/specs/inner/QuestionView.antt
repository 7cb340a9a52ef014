-- What is asked of what terms offer, with numbers in place of expressions.
use Rattle.std.specs.Prelude.{ℕ, ℤ, Bool, true, false, List, [], ◌∷◌, map, Ok, Err}
use Rattle.std.specs.declared.result.Result.{Result}
use Rattle.lt_num.specs.declared.fault.Arith.{Arith}
use Rattle.lt_num.specs.declared.kind.Kind.{Kind}
use Rattle.lt_formula.specs.Expression.{Expression}
use Rattle.lt_space.specs.Formula.{Formula}
use Rattle.lt_term.specs.Evaluated.{Worth, faulty, outlook}
use Rattle.lt_term.specs.Mapped.{leaf_mapped}
use Rattle.lt_term.specs.Offers.{TermLeaf, TermTree}
use Rattle.lt_term.specs.Process.{Process, with_constraints}
use Rattle.lt_term.specs.Scene.{Scene}
use Rattle.lt_term.specs.Tree.{Lasts, nothing, raised, vanish}
use Rattle.lt_term.specs.Unfolded.{going}
use Rattle.lt_term.specs.UnfoldingView.{instant_in}
use Rattle.lt_term.specs.View.{kinds_of}
use Rattle.lt_term.specs.declared.root.Offer.{Offer}
use Rattle.lt_term.specs.declared.root.Offer.TheVariants as offer
use Rattle.lt_term.specs.declared.unfolding.Unfolding.{Unfolding}
use Rattle.lt_instant.specs.Instant.{Leaf}
use Rattle.lt_instant.specs.Solved.{holds_of}
use Rattle.lt_instant.specs.declared.draw_context.DrawContext.{DrawContext}
use Rattle.lt_instant.specs.inner.DrawContextView.{meaning_of, scene_of, weigher_of, worth_of}
use Rattle.lt_legal.specs.Nodes.{has}
use Rattle.lt_check.specs.declared.step.ShownStep.{ShownStep}
use Rattle.lt_check.specs.inner.Searches.{is_alive}
use Rattle.lt_check.specs.inner.Seen.{Sight}
use Rattle.lt_check.specs.inner.Shaped.{shape_by}
use Rattle.lt_check.specs.inner.Visited.{leaves_of}
use Rattle.lt_check.specs.inner.Wanted.{for_step, is_wanted}

-- the kinds of the locals
abbrev pub kinds_in : DrawContext → List Kind
kinds_in m = kinds_of m.scenario.now.locals.items

-- the expression of a number
abbrev pub meaning_in : DrawContext → ℕ → Expression
meaning_in m c = meaning_of m.scenario.now.table c

-- what constraints and weights of numbers are worth
abbrev pub number_worth : DrawContext → Worth ℕ Formula
number_worth m = record {
  formula = λ ls cs. (worth_of m).formula ls (map (meaning_in m) cs);
  weight = weigher_of m;
}

-- what a leaf of numbers is worth
abbrev pub outlook_in : DrawContext → TermLeaf ℕ → Leaf
outlook_in m l =
    outlook (worth_of m) (leaf_mapped (meaning_in m) (with_constraints (meaning_in m)) l)

-- leaves of numbers, by what a test says of what they are worth
abbrev pub number_sight : DrawContext → (Leaf → Bool) → Sight ℕ (Process ℕ)
number_sight m test = record {
  passes = λ l. test (outlook_in m l);
  fails = λ f. test (faulty f);
  keeps_order = true;
}

-- whether a live leaf can be reached in a tree
abbrev pub lives_in : DrawContext → TermTree ℕ → Bool
lives_in m t = has (shape_by (number_worth m) (number_sight m (is_alive (scene_of m))) t)

-- whether a leaf is a step
abbrev pub is_step : DrawContext → ShownStep → Leaf → Bool
is_step m step o = is_wanted (for_step (scene_of m) step.raws.items step.marks.items) o

-- the leaves that are a step and may be taken, the last ones first
abbrev pub step_leaves : DrawContext → ShownStep → TermTree ℕ → List (TermLeaf ℕ)
step_leaves m step t = leaves_of (number_worth m) (number_sight m (is_step m step)) (lives_in m) t

-- whether constraints that are worth this hold of raw numbers
abbrev pub answer_holds : Scene → List ℤ → Result Formula Arith → Bool
answer_holds s raws (Ok f) = holds_of s f raws
answer_holds s raws (Err fault) = false

-- whether a constraint holds of a step
abbrev pub constraint_holds : DrawContext → ShownStep → Lasts → ℕ → Bool
constraint_holds m step ls c =
    answer_holds (scene_of m) step.raws.items ((worth_of m).formula ls (meaning_in m c ∷ []))

-- a leaf of what is unfolded
abbrev pub leaf_in : DrawContext → Unfolding → Offer → TermLeaf ℕ
leaf_in m u offer.Nothing = nothing
leaf_in m u offer.Vanish = vanish
leaf_in m u (offer.Raise z) = raised z
leaf_in m u (offer.Go i) = going (instant_in (kinds_in m) u i)
