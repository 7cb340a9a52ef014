-- What expressions are worth by what their parts are.
use Rattle.std.proofs.Common.{◌≡◌, ℕ, true, false, Ok, Err, refl}
use Rattle.lt_ast.specs.declared.span.Span.{Span}
use Rattle.lt_num.specs.declared.fault.Arith.TheVariants.{NoPrevious}
use Rattle.lt_num.specs.declared.kind.Kind.{Kind}
use Rattle.lt_num.specs.declared.kind.Kind.TheVariants as kind
use Rattle.lt_num.specs.declared.value.Value.{Value}
use Rattle.lt_num.specs.declared.value.Value.TheVariants as value
use Rattle.lt_formula.specs.Facts.{binary_facts, choice_facts, is_known_role, unary_facts}
use Rattle.lt_formula.specs.Operators.{and_then, constant_value, unary_value}
use Rattle.lt_formula.specs.declared.role.Role.{Role}
use Rattle.lt_formula.specs.declared.role.Role.TheVariants as role
use Rattle.lt_formula.specs.declared.operator.UnaryOperator.{UnaryOperator}
use Rattle.lt_formula.specs.declared.operator.BinaryOperator.{BinaryOperator}
use Rattle.lt_macros.specs.Placed.{Placed, constant, variable, previous, unary, binary, choice}
use Rattle.lt_expand.specs.inner.Worth.{binary_answer, chosen_answer, worth}

pub worth_constant : (n : ℕ) (k : Kind) (v : Value) (at : Span) → worth n (constant k v at) ≡ record { facts = record { kind = k; is_known = true; is_static = true }; value = constant_value v }
unfolding worth
worth_constant n k v at = refl

pub worth_variable : (n : ℕ) (r : Role) (i : ℕ) (at : Span)
    → worth n (variable r i at) ≡ record { facts = record { kind = kind.Bool; is_known = is_known_role r; is_static = false }; value = Ok (value.Bool false) }
unfolding worth
worth_variable n role.Input i at = refl
worth_variable n role.Output i at = refl
worth_variable n role.Local i at = refl

pub worth_previous : (n : ℕ) (r : Role) (i : ℕ) (at : Span)
    → worth n (previous r i at) ≡ record { facts = record { kind = kind.Bool; is_known = true; is_static = false }; value = Err NoPrevious }
unfolding worth
worth_previous n role.Input i at = refl
worth_previous n role.Output i at = refl
worth_previous n role.Local i at = refl

pub worth_unary : (n : ℕ) (op : UnaryOperator) (e : Placed) (at : Span)
    → worth n (unary op e at) ≡ record { facts = unary_facts op (worth n e).facts; value = and_then (worth n e).value (unary_value op) }
unfolding worth
worth_unary n op e at = refl

pub worth_binary : (n : ℕ) (op : BinaryOperator) (d e : Placed) (at : Span)
    → worth n (binary op d e at) ≡ record { facts = binary_facts op (worth n d).facts (worth n e).facts; value = binary_answer op (worth n d).facts.kind n (worth n d).value (worth n e).value }
unfolding worth
worth_binary n op d e at = refl

pub worth_choice : (n : ℕ) (c d e : Placed) (at : Span)
    → worth n (choice c d e at) ≡ record { facts = choice_facts (worth n c).facts (worth n d).facts (worth n e).facts; value = chosen_answer (worth n c).value (worth n d).value (worth n e).value }
unfolding worth
worth_choice n c d e at = refl

pub ruleset worths = (worth_constant, worth_variable, worth_previous, worth_unary, worth_binary, worth_choice)
