-- How many expressions a table has.
use Rattle.std.proofs.Common.{◌≡◌, ◌+◌, List, [], ◌∷◌, ◌++◌, length, length-append, ◌∙◌, arith}
use Rattle.std.proofs.lemmas.List.{length-map}
use Rattle.lt_formula.specs.Expression.{Expression}
use Rattle.lt_formula.specs.Table.{expression_at, expressions_of, extended, nodes_of}
use Rattle.lt_formula.specs.declared.facts.Facts.{Facts}
use Rattle.lt_formula.specs.declared.node.ExpNode.{ExpNode}

length_extended : (es : List Expression) (ns : List ExpNode) → length (extended es ns) ≡ length es + length ns
length_extended es [] = omega arith
length_extended es (n ∷ ns) = length_extended (es ++ expression_at es n ∷ []) ns ∙ simp length-append (omega arith)

length-expressions_of : (ns : List ExpNode) → length (expressions_of ns) ≡ length ns
length-expressions_of ns = length_extended [] ns ∙ omega arith

-- as many as entries
pub length-entries : (es : List (ExpNode × Facts)) → length (expressions_of (nodes_of es)) ≡ length es
length-entries es = length-expressions_of (nodes_of es) ∙ length-map es (λ entry. entry.0)
