-- That a function of the parser answers as reading does.
use Rattle.std.specs.Prelude.{◌≡◌, ℕ, suc, length, Bool, true, false, Option, Some, None, Result, Ok, Err, nat_le}
use Rattle.lt_ast.specs.declared.expr.BinOp.{BinOp}
use Rattle.lt_ast.specs.Syntax.{Word, Exp, binary, Alternative, unweighted, Trace, catch, trap, MaybeTrace, Parameters, no_parameters, parameters}
use Rattle.lt_ast.specs.View.{exp, groupings, program}
use Rattle.lt_ast.specs.declared.expr.Expr.{Expr}
use Rattle.lt_ast.specs.declared.program.Program.{Program}
use Rattle.lt_ast.specs.declared.group.Groups.{Groups}
use Rattle.lt_parser.specs.declared.refusal.Refusal.{Refusal}
use Rattle.lt_parser.specs.declared.refusal.Refusal.TheVariants as r
use Rattle.lt_parser.specs.declared.traces.Guard.{Guard}
use Rattle.lt_parser.specs.declared.traces.Guard.TheVariants as guard
use Rattle.lt_grammar.specs.Lexemes.{Lexemes}
use Rattle.lt_grammar.specs.Precedence.{rank}
use Rattle.lt_ast.specs.Places.{across, span_of}
use Rattle.lt_parser.specs.inner.Reading.{Goal, Tree, program_tree, expression_tree, done, expression_done, whole_exp, declarations, unexpected, too_deep, outcome, more_exp, operand, onward, top, an_alternative, a_trace, an_exp, after_weight, a_name, in_trace, a_handler}
use Rattle.lt_grammar.specs.Nesting.{most_levels}

-- Reading stops as a refusal says, whatever is wanted afterwards.
abbrev pub Refused : {K : Type 0} → (K → Goal) → Lexemes → Refusal → Type 0
Refused {K} want ts (r.Unexpected left) = (k : K) → outcome most_levels (want k) ts ≡ Err (unexpected left)
Refused {K} want ts (r.TooDeep left) = (k : K) → outcome most_levels (want k) ts ≡ Err (too_deep left)
Refused {K} want ts r.Memory = Unit {0}

-- What is wanted is found, and reading continues after it, whatever is wanted afterwards.
abbrev pub Found : {K : Type 0} → (K → Goal) → (K → Goal) → Lexemes → Lexemes → Type 0
Found {K} want onto ts rest = (k : K) → outcome most_levels (want k) ts ≡ outcome most_levels (onto k) rest

-- Where this was wanted, reading does as the function answered: it stops so, or continues with what is wanted after what was found.
abbrev pub ReadsTo : {X K : Type 0} → (X → K → Goal) → (X → Lexemes) → (K → Goal) → Lexemes → Result X Refusal → Type 0
ReadsTo onto rest_of want ts (Ok x) = Found want (onto x) ts (rest_of x)
ReadsTo onto rest_of want ts (Err e) = Refused want ts e

-- Reading does as the function answered, where the value of what was found is handed on.
abbrev pub ReadsAs : {X V : Type 0} → (X → V) → (X → Lexemes) → ((V → Goal) → Goal) → Lexemes → Result X Refusal → Type 0
ReadsAs value_of rest_of want ts result = ReadsTo (λ x k. k (value_of x)) rest_of want ts result

-- what the whole reading answered, where this was wanted from the start
abbrev pub WholeReadsAs : {X : Type 0} → Goal → (X → Tree) → Lexemes → Result X Refusal → Type 0
WholeReadsAs wanted tree ts (Ok x) = outcome most_levels wanted ts ≡ Ok (tree x)
WholeReadsAs wanted tree ts (Err (r.Unexpected left)) =
    outcome most_levels wanted ts ≡ Err (unexpected left)
WholeReadsAs wanted tree ts (Err (r.TooDeep left)) =
    outcome most_levels wanted ts ≡ Err (too_deep left)
WholeReadsAs wanted tree ts (Err r.Memory) = Unit {0}

-- what the whole reading of a program answered
abbrev pub ProgramReadsAs : Lexemes → Result Program Refusal → Type 0
ProgramReadsAs ts result =
    WholeReadsAs (declarations done) (λ x. program_tree (program x)) ts result

-- what the whole reading of an expression answered
abbrev pub ExpressionReadsAs : Lexemes → Result Expr Refusal → Type 0
ExpressionReadsAs ts result =
    WholeReadsAs (whole_exp expression_done) (λ x. expression_tree (exp x)) ts result

-- No operator follows that binds at least so tightly.
abbrev pub IsNotExtended : ℕ → Lexemes → Type 0
IsNotExtended low ts = (d : ℕ) (x : Exp) (k : Exp → Goal) → outcome most_levels (more_exp d low x k) ts ≡ outcome most_levels (k x) ts

-- An operator that binds at least so tightly comes first. It wants its right side where the expression may have it.
pub record IsExtended (low : ℕ) (op : BinOp) (ts rest : Lexemes) : Type 0 where
  pub count : length ts ≡ suc (length rest)
  pub taken : (d : ℕ) (x : Exp) (k : Exp → Goal) → nat_le (rank op) (top x) ≡ true
      → outcome most_levels (more_exp d low x k) ts ≡ onward most_levels (operand d op (λ y. more_exp d low (binary op x y (across (span_of x) (span_of y))) k)) (length rest) (λ goal. outcome most_levels goal rest)
  pub refused : (d : ℕ) (x : Exp) (k : Exp → Goal) → nat_le (rank op) (top x) ≡ false → outcome most_levels (more_exp d low x k) ts ≡ Err (unexpected (suc (length rest)))

-- what a function answered about the right side of an operator
abbrev pub OperandReadsAs : {X : Type 0} → (X → Exp) → (X → Lexemes) → ℕ → BinOp → Lexemes → Result X Refusal → Type 0
OperandReadsAs value_of rest_of d op ts (Ok x) = (k : Exp → Goal) → onward most_levels (operand d op k) (length ts) (λ goal. outcome most_levels goal ts) ≡ outcome most_levels (k (value_of x)) (rest_of x)
OperandReadsAs value_of rest_of d op ts (Err (r.Unexpected left)) = (k : Exp → Goal) → onward most_levels (operand d op k) (length ts) (λ goal. outcome most_levels goal ts) ≡ Err (unexpected left)
OperandReadsAs value_of rest_of d op ts (Err (r.TooDeep left)) = (k : Exp → Goal) → onward most_levels (operand d op k) (length ts) (λ goal. outcome most_levels goal ts) ≡ Err (too_deep left)
OperandReadsAs value_of rest_of d op ts (Err r.Memory) = Unit {0}

-- Whether an item begins that begins with no expression.
abbrev pub BeginsItem : Bool → Lexemes → Type 0
BeginsItem true ts = (d : ℕ) (k : Alternative → Goal) → outcome most_levels (an_alternative d k) ts ≡ outcome most_levels (a_trace d (λ x. k (unweighted x))) ts
BeginsItem false ts = (d : ℕ) (k : Alternative → Goal) → outcome most_levels (an_alternative d k) ts ≡ outcome most_levels (an_exp d 0 (λ e. after_weight d e k)) ts

-- parameters, where a list of them is there
abbrev pub parameters_of : Option Groups → Parameters
parameters_of None = no_parameters
parameters_of (Some gs) = parameters (groupings gs)

-- a trace under `catch` or `trap`, with its handler
abbrev pub guarded_trace : Guard → Word → Trace → MaybeTrace → Trace
guarded_trace guard.Catch n x h = catch n x h
guarded_trace guard.Trap n x h = trap n x h

-- what follows `catch` or `trap`
abbrev pub guard_goal : ℕ → Guard → (Trace → Goal) → Goal
guard_goal d form k = a_name (λ n. in_trace d (λ x. a_handler d (λ h. k (guarded_trace form n x h))))
