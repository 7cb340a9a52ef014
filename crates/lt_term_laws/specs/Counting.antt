-- How often counted loops turn.
use Rattle.std.specs.Prelude.{◌≡◌, ◌≢◌, ℕ, suc, ◌+◌, ◌<◌, ◌≤◌, ◌⊎◌, IsTrue, Bool, List, All, Ok}
use Rattle.lt_num.specs.declared.kind.Kind.{Kind}
use Rattle.lt_num.specs.declared.value.Value.{Value}
use Rattle.lt_formula.specs.Expression.{Expression}
use Rattle.lt_term.specs.Configuration.{Configuration, turns_of, weight_in}
use Rattle.lt_term.specs.Evaluated.{Evaluated, Worth, evaluated, node_count}
use Rattle.lt_term.specs.Live.{FurtherOn, IsLegal}
use Rattle.lt_term.specs.Offers.{TermTree, in_turn, offers_of}
use Rattle.lt_term.specs.Process.{Process, count}
use Rattle.lt_term.specs.Scene.{Scene}
use Rattle.lt_term.specs.Tree.{Lasts, Node, leaf_node, vanish, with_leaves, flattened}

-- What weights are worth in an instant. A formula is the list of its constraints here, and a test says which can hold.
abbrev pub worth_by : Scene → Configuration → List Value → Worth Expression (List Expression)
worth_by s c inputs = record { formula = λ ls es. Ok es; weight = weight_in s c inputs }

-- what one turn of a loop offers, which goes on with this
abbrev pub turn_of : List Kind → Process Expression → Process Expression → TermTree Expression
turn_of kinds t again = with_leaves (in_turn again) (offers_of kinds t)

-- A leaf that an instant may take of a counted loop is in one more turn, and fewer turns are done than the greatest number, or
-- it is the end, and no fewer are done than the least number.
abbrev pub KeepsItsBounds : Scene → ℕ → ℕ → (List Expression → Lasts → Bool) → Evaluated (List Expression) (Process Expression) → ℕ → Type 0
KeepsItsBounds s i done can_hold turn position =
    ((done < (turns_of s i).1) × FurtherOn 1 (IsLegal (λ f ls. IsTrue (can_hold f ls)) turn) position)
    ⊎ (((turns_of s i).0 ≤ done) × (position ≡ 1 + node_count turn))

abbrev pub CountedLoopsKeepTheirBounds : Type 0
CountedLoopsKeepTheirBounds =
    (s : Scene) (c : Configuration) (inputs : List Value) (kinds : List Kind) (can_hold : List Expression → Lasts → Bool) (i done : ℕ) (t : Process Expression) (position : ℕ) →
    IsLegal (λ f ls. IsTrue (can_hold f ls)) (evaluated (worth_by s c inputs) (offers_of kinds (count i done t))) position
    → KeepsItsBounds s i done can_hold (evaluated (worth_by s c inputs) (turn_of kinds t (count i (suc done) t))) position

-- No leaf of a turn vanishes.
abbrev pub TurnsTakeInstants : Type 0
TurnsTakeInstants = (kinds : List Kind) (t again : Process Expression) → All (λ n. n ≢ leaf_node vanish) (flattened (turn_of kinds t again))
