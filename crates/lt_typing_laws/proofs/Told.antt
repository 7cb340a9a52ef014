-- The kind of a well typed expression is the one that its facts tell.
use Rattle.std.proofs.Common.{◌≡◌, ℕ, zero, suc, List, [], ◌∷◌, slice_get, slice_index_or, Some, sym, ap, ◌∙◌}
use Rattle.lt_num.specs.declared.kind.Kind.{Kind}
use Rattle.lt_num.specs.declared.kind.Kind.TheVariants as kind
use Rattle.lt_formula.specs.Expression.{constant, variable, previous, unary, binary, choice}
use Rattle.lt_formula.specs.Facts.{unary_kind, binary_kind}
use Rattle.lt_formula.specs.Kinds.{kinds_of_role}
use Rattle.lt_typing_laws.specs.Laws.{KindsAreTold}

at_place : (ks : List Kind) (i : ℕ) (k : Kind) → slice_get ks i ≡ Some k → slice_index_or ks i kind.Bool ≡ k
at_place [] i k h = absurd (cc)
at_place (x ∷ ks) zero k h = cc
at_place (x ∷ ks) (suc i) k h = at_place ks i k h

pub kinds_are_told : KindsAreTold
kinds_are_told kinds (constant c v) k h = sym h.0
kinds_are_told kinds (variable r i) k h = at_place (kinds_of_role kinds r) i k h
kinds_are_told kinds (previous r i) k h = at_place (kinds_of_role kinds r) i k h
kinds_are_told kinds (unary op e) k h = ap (unary_kind op) (kinds_are_told kinds e h.0 h.1) ∙ sym h.3
kinds_are_told kinds (binary op d e) k h = ap (binary_kind op) (kinds_are_told kinds d h.0 h.1) ∙ sym h.4
kinds_are_told kinds (choice c d e) k h = kinds_are_told kinds d k h.1
