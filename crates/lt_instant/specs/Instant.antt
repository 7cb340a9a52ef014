-- One instant of a run.
use Rattle.std.specs.Prelude.{ℕ, ◌+◌, nat_eq, nat_lt, ◌&&◌, Bool, true, false, if◌then◌else◌, is_some, ℤ, List, [], None, Some}
use Rattle.std.specs.List.{list_any}
use Rattle.std.specs.declared.option.Option.{Option}
use Rattle.lt_num.specs.declared.fault.Arith.{Arith}
use Rattle.lt_num.specs.declared.value.Value.{Value}
use Rattle.lt_draw.specs.Word.{word_at}
use Rattle.lt_draw.specs.declared.directions.Draw as rule
use Rattle.lt_formula.specs.Expression.{Expression}
use Rattle.lt_space.specs.Formula.{Formula}
use Rattle.lt_space.specs.Meaning.{formula_of_all}
use Rattle.lt_term.specs.Advanced.{advanced}
use Rattle.lt_term.specs.Configuration.{Configuration, kinds_of_all, known_in, scene_kinds, weight_in}
use Rattle.lt_term.specs.Evaluated.{Outlook, vanish, nothing, raised, faulty, go, Evaluated, Worth, evaluated}
use Rattle.lt_term.specs.Limits.{most_tree_nodes}
use Rattle.lt_term.specs.Offers.{TermTree, offers_of}
use Rattle.lt_term.specs.Process.{Process}
use Rattle.lt_term.specs.Scene.{Scene}
use Rattle.lt_term.specs.Tree.{Lasts, size}
use Rattle.lt_instant.specs.Drawn.{Draw, Met, draw_of}
use Rattle.lt_instant.specs.Solved.{locals_by, need_of, outputs_by, scoped, solution_of, values_of}

-- what an instant is
pub data Instant : Type 0 where
  -- the outputs have these values, and so have the locals in scope, and the run stands there afterwards
  values : List Value → List (Option Value) → Configuration → Instant
  -- the scenario is over
  normal : Instant
  -- an exception is raised
  raise : ℕ → Instant
  -- no live leaf can be reached
  deadlock : Instant
  -- constraints or weights have this fault
  fault : Arith → Instant
  -- what the term offers has too many nodes
  too_large : Instant

-- what leaves and trees of an instant are, once they are evaluated
abbrev pub Leaf : Type 0
Leaf = Outlook Formula (Process Expression)

abbrev pub Judged : Type 0
Judged = Evaluated Formula (Process Expression)

-- what constraints and weights are worth: constraints are worth the formula that they are together, or the first fault
abbrev pub worth_in : Scene → Configuration → List Value → Worth Expression Formula
worth_in s c inputs = record { formula = λ ls es. formula_of_all (known_in s c inputs ls) (scene_kinds s) es; weight = weight_in s c inputs }

-- what the term of a configuration offers
abbrev pub offered : Scene → Configuration → TermTree Expression
offered s c = offers_of (kinds_of_all s.locals) c.process

-- the same, evaluated
abbrev pub judged : Scene → Configuration → List Value → Judged
judged s c inputs = evaluated (worth_in s c inputs) (offered s c)

-- whether a leaf is live: at an instant, whether its formula has a solution
abbrev pub is_live : Scene → rule.Draw → (ℕ → ℕ) → Leaf → Bool
is_live s draw word vanish = true
is_live s draw word nothing = false
is_live s draw word (raised z) = true
is_live s draw word (faulty f) = true
is_live s draw word (go f ls n) = is_some (solution_of s draw word ls f)

-- the words of an instant, by slot
abbrev pub words_of : ℕ → Configuration → ℕ → ℕ
words_of seed c slot = word_at seed c.step slot

-- what is drawn of a tree
abbrev pub drawn_of : Scene → rule.Draw → (ℕ → ℕ) → Judged → Draw Formula (Process Expression)
drawn_of s draw word t = draw_of word (is_live s draw word) t

-- where a run stands after an instant in which all that is drawn has these raw numbers
abbrev pub next_configuration : Scene → Configuration → List Value → Lasts → Process Expression → List ℤ → Configuration
next_configuration s c inputs ls n raws = record {
  process = advanced (values_of ls (locals_by s raws)) n;
  step = c.step + 1;
  previous = Some (record { inputs = inputs; outputs = outputs_by s raws });
}

-- an instant whose formula has this solution, if any
abbrev pub go_instant : Scene → Configuration → List Value → Lasts → Process Expression → Option (List ℤ) → Instant
go_instant s c inputs ls n None = deadlock
go_instant s c inputs ls n (Some raws) = values (outputs_by s raws) (scoped ls 0 (locals_by s raws)) (next_configuration s c inputs ls n raws)

-- the instant that takes a leaf
abbrev pub leaf_instant : Scene → ℕ → rule.Draw → Configuration → List Value → Leaf → Instant
leaf_instant s seed draw c inputs vanish = normal
leaf_instant s seed draw c inputs nothing = deadlock
leaf_instant s seed draw c inputs (raised z) = raise z
leaf_instant s seed draw c inputs (faulty f) = fault f
leaf_instant s seed draw c inputs (go f ls n) = go_instant s c inputs ls n (solution_of s draw (words_of seed c) ls f)

-- the instant that takes this leaf, if any
abbrev pub taken_instant : Scene → ℕ → rule.Draw → Configuration → List Value → Option (Met Formula (Process Expression)) → Instant
taken_instant s seed draw c inputs None = deadlock
taken_instant s seed draw c inputs (Some m) = leaf_instant s seed draw c inputs m.outlook

-- whether what a term offers has too many nodes
abbrev pub is_too_large : Scene → Configuration → Bool
is_too_large s c = nat_lt most_tree_nodes (size (offered s c))

-- what is drawn in an instant
abbrev pub drawn_in : Scene → ℕ → rule.Draw → Configuration → List Value → Draw Formula (Process Expression)
drawn_in s seed draw c inputs = drawn_of s draw (words_of seed c) (judged s c inputs)

-- the leaf that an instant takes
abbrev pub taken_in : Scene → ℕ → rule.Draw → Configuration → List Value → Option (Met Formula (Process Expression))
taken_in s seed draw c inputs = (drawn_in s seed draw c inputs).drawn

-- The instant of a configuration in which the inputs have these values, by a seed and a rule of drawing.
abbrev pub instant_of : Scene → ℕ → rule.Draw → Configuration → List Value → Instant
instant_of s seed draw c inputs = if is_too_large s c then too_large else taken_instant s seed draw c inputs (taken_in s seed draw c inputs)

-- ---- instants that are given up

-- whether the search at a leaf has this need
abbrev pub has_need : Scene → ℕ → Leaf → Bool
has_need s n (go f ls next) = nat_eq (need_of s ls f) n
has_need s n other = false

-- The leaves at which the draw of an instant arrives, in order. Where what the term offers is too
-- large, nothing is drawn.
abbrev pub looked_in : Scene → ℕ → rule.Draw → Configuration → List Value →
    List (Met Formula (Process Expression))
looked_in s seed draw c inputs =
    if is_too_large s c then [] else (drawn_in s seed draw c inputs).looked_at

-- Whether an instant may be given up with this need: it is over the budget, and the draw arrives at a
-- leaf whose search has it.
abbrev pub may_give_up : Scene → ℕ → rule.Draw → ℕ → Configuration → List Value → ℕ → Bool
may_give_up s seed draw budget c inputs n =
    nat_lt budget n && list_any (λ m. has_need s n m.outlook) (looked_in s seed draw c inputs)
