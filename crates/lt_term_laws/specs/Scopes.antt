-- Scopes that are entered again.
use Rattle.std.specs.Prelude.{◌≡◌, ℕ, IsTrue, List, All}
use Rattle.lt_num.specs.declared.kind.Kind.{Kind}
use Rattle.lt_num.specs.declared.value.Value.{Value}
use Rattle.lt_formula.specs.Expression.{Expression}
use Rattle.lt_term.specs.Advanced.{advanced}
use Rattle.lt_term.specs.Next.{followed_by}
use Rattle.lt_term.specs.Offers.{offers_of}
use Rattle.lt_term.specs.Process.{Process, loop}
use Rattle.lt_term.specs.Subterms.{is_at_start}
use Rattle.lt_term.specs.Tree.{Node, leaf_node, ordered_node, weighted_node, vanish, nothing, raised, go, flattened}

-- what is left to be done behind a node, after an instant with these values of locals, ends with this term
abbrev pub EndsWith : List (ℕ × Value) → Process Expression → Node Expression (Process Expression) → Type 0
EndsWith values again (leaf_node (go cs ls n)) = (rest : Process Expression) × (advanced values n ≡ followed_by rest again)
EndsWith values again (leaf_node vanish) = Unit {0}
EndsWith values again (leaf_node nothing) = Unit {0}
EndsWith values again (leaf_node (raised z)) = Unit {0}
EndsWith values again ordered_node = Unit {0}
EndsWith values again (weighted_node ls ws) = Unit {0}

-- Behind a turn of a loop comes the loop as it was, whatever values its locals had in the turn: none of its scopes is entered.
abbrev pub ScopesBeginAnew : Type 0
ScopesBeginAnew = (values : List (ℕ × Value)) (kinds : List Kind) (t : Process Expression) → IsTrue (is_at_start t) → All (EndsWith values (loop t)) (flattened (offers_of kinds (loop t)))
