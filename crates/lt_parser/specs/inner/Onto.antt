-- Lists that the code has, in front of the lists of a tree.
use Rattle.std.specs.Prelude.{ℕ, Bool, List, [], ◌∷◌}
use Rattle.lt_ast.specs.inner.Rows.{weighed, group_of}
use Rattle.lt_ast.specs.Syntax as s
use Rattle.lt_ast.specs.Syntax.{Word, Exp, Arguments, Braces, Alternatives, Trace, Traces, Groupings, Run, Declaration}
use Rattle.lt_ast.specs.View.{word, exp, argument, trace, run, declaration}
use Rattle.lt_ast.specs.declared.sign.Sign.{Sign}
use Rattle.lt_ast.specs.declared.sign.Sign.TheVariants as t
use Rattle.lt_ast.specs.declared.span.Span.{Span}
use Rattle.lt_parser.specs.inner.Reading.{Goal, a_sign, an_alternative, more_alternatives, a_trace, more_traces, an_item, more_items, some_runs, declarations, done}
use Rattle.lt_ast.specs.declared.name.Name.{Name}
use Rattle.lt_ast.specs.declared.expr.Arg.{Arg}
use Rattle.lt_ast.specs.declared.expr.Expr.{Expr}
use Rattle.lt_ast.specs.declared.trace.Part.{Part}
use Rattle.lt_ast.specs.declared.trace.TraceExpr.{TraceExpr}
use Rattle.lt_ast.specs.declared.group.Group.{Group}
use Rattle.lt_ast.specs.declared.program.Decl.{Decl}
use Rattle.lt_ast.specs.declared.program.RunDecl.{RunDecl}

-- parts in front of others, each put there by f
abbrev pub onto : {X L : Type 0} → (X → L → L) → List X → L → L
onto f [] more = more
onto f (x ∷ xs) more = f x (onto f xs more)

-- arguments
abbrev pub arguments_onto : List Arg → Arguments → Arguments
arguments_onto xs more = onto (λ x. s.argument (argument x)) xs more

-- alternatives
abbrev pub alternatives_onto : List Part → Alternatives → Alternatives
alternatives_onto xs more = onto (λ x. s.alternative (weighed x.weight x.body)) xs more

-- traces
abbrev pub traces_onto : List TraceExpr → Traces → Traces
traces_onto xs more = onto (λ x. s.one_trace (trace x)) xs more

-- groups
abbrev pub groups_onto : List Group → Groupings → Groupings
groups_onto xs more = onto (λ x. s.one_group (group_of x)) xs more

-- names
abbrev pub words_onto : List Name → List Word → List Word
words_onto xs more = onto (λ x ws. word x ∷ ws) xs more

-- expressions
abbrev pub expressions_onto : List Expr → List Exp → List Exp
expressions_onto xs more = onto (λ x es. exp x ∷ es) xs more

-- runs of nodes
abbrev pub runs_onto : List RunDecl → List Run → List Run
runs_onto xs more = onto (λ x rs. run x ∷ rs) xs more

-- declarations
abbrev pub declarations_onto : List Decl → List Declaration → List Declaration
declarations_onto xs more = onto (λ x ds. declaration x ∷ ds) xs more

-- What is wanted where parts are read already: an alternative and more of them ..
abbrev pub alternatives_after : ℕ → List Part → (Alternatives → Span → Goal) → Goal
alternatives_after d before k = an_alternative d (λ p. more_alternatives d (λ more. k (alternatives_onto before (s.alternative p more))))

-- .. a trace and more of them after a sign ..
abbrev pub traces_after : ℕ → Sign → List TraceExpr → (Traces → Span → Goal) → Goal
traces_after d sign before k = a_trace d (λ x. more_traces d sign (λ more. k (traces_onto before (s.one_trace x more))))

-- .. such alternatives or traces that make what stands in braces ..
abbrev pub choice_after : ℕ → Bool → List Part → (Braces → Span → Goal) → Goal
choice_after d lead before k = alternatives_after d before (λ xs q. k (s.choice lead xs) q)

abbrev pub priority_after : ℕ → Bool → List TraceExpr → (Braces → Span → Goal) → Goal
priority_after d lead before k = traces_after d t.Priority before (λ xs q. k (s.priority lead xs) q)

abbrev pub parallel_after : ℕ → Bool → List TraceExpr → (Braces → Span → Goal) → Goal
parallel_after d lead before k = traces_after d t.Parallel before (λ xs q. k (s.parallel lead xs) q)

-- .. a brace that ends a trace alone ..
abbrev pub plain_after : Trace → (Braces → Span → Goal) → Goal
plain_after x k = a_sign t.CloseBrace (λ q. k (s.plain x) q)

-- .. an item and more of them of a sequence ..
abbrev pub items_after : ℕ → List TraceExpr → (Trace → Goal) → Goal
items_after d before k = an_item d (λ x. more_items d (λ more. k (s.sequence (traces_onto before (s.one_trace x more)))))

-- .. runs of nodes, each of which opened a level, and the trace in all of them ..
abbrev pub runs_after : ℕ → List RunDecl → (List Run → Trace → Goal) → Goal
runs_after d before k = some_runs d (λ more x. k (runs_onto before more) x)

-- .. declarations up to the end ..
abbrev pub declarations_after : List Decl → Goal
declarations_after before = declarations (λ xs. done (declarations_onto before xs))

-- .. and declarations up to the end, where one more is read already
abbrev pub declarations_more : List Decl → Declaration → Goal
declarations_more before x = declarations (λ xs. done (declarations_onto before (x ∷ xs)))
