-- What a scenario keeps of its table and its body: which expressions are there, what class they are of, and how large it is.
use Rattle.std.specs.Prelude.{ℕ, ◌+◌, Bool, not, nat_le, List, length}
use Rattle.std.specs.List.{All, Contains, list_all}
use Rattle.lt_formula.specs.Expression.{Expression}
use Rattle.lt_formula.specs.Kinds.{Kinds}
use Rattle.lt_term.specs.Classes.{has_known_condition, is_controllable, is_linear_node}
use Rattle.lt_term.specs.Depth.{expression_depth}
use Rattle.lt_term.specs.Limits.{most_expression_depth}
use Rattle.lt_term.specs.Named.{parts_in, weights_in, with_parts}
use Rattle.lt_term.specs.Process.{Process}
use Rattle.lt_term.specs.Subterms.{subterms}

-- Each of these expressions is a constraint or a weight of a term, or a part of one.
abbrev pub AreNamed : List Expression → Process Expression → Type 0
AreNamed es p = All (Contains (parts_in p)) es

-- whether an expression and all its parts are linear in what is drawn
abbrev pub is_linear_throughout : Kinds → Expression → Bool
is_linear_throughout kinds e = list_all (is_linear_node kinds) (with_parts e)

-- whether neither it nor a part of it is a choice between numbers by what is drawn
abbrev pub has_known_conditions : Kinds → Expression → Bool
has_known_conditions kinds e = list_all (has_known_condition kinds) (with_parts e)

-- whether no weight of a term depends on what is drawn
abbrev pub has_known_weights : Kinds → Process Expression → Bool
has_known_weights kinds p = list_all (λ w. not (is_controllable kinds w)) (weights_in p)

-- how many terms there are in a term, and nodes in its expressions, each counted each time that it stands there
abbrev pub node_count : Process Expression → ℕ
node_count p = length (subterms p) + length (parts_in p)

-- whether an expression is no deeper than one may be
abbrev pub is_shallow : Expression → Bool
is_shallow e = nat_le (expression_depth e) most_expression_depth
