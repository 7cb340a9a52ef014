-- Names that are used, and their arguments.
use Rattle.std.proofs.Common.{◌≡◌, ◌≢◌, ◌<◌, ◌≤◌, suc, true, false, List, [], ◌∷◌, Box, Global, Option, Some, None, map, length, refl, ap, arith}
use Rattle.lt_ast.specs.declared.group.TypeName.{TypeName}
use Rattle.lt_ast.specs.declared.group.TypeName.TheVariants as t
use Rattle.lt_ast.specs.declared.name.Name.{Name}
use Rattle.lt_ast.specs.declared.expr.Arg.{Arg}
use Rattle.lt_ast.specs.declared.expr.Args.{Args}
use Rattle.lt_ast.specs.declared.expr.Expr.{back-Expr-Named-1}
use Rattle.lt_ast.specs.Syntax as s
use Rattle.lt_ast.specs.Syntax.{Word, Exp, Arguments}
use Rattle.lt_ast.specs.inner.Lists.{arguments_of}
use Rattle.lt_ast.specs.View.{word, named_exp, argument}
use Rattle.lt_ast.proofs.Public.{arguments_list}
use Rattle.lt_types.specs.Environment.{Environment, macro}
use Rattle.lt_types.specs.inner.Given.{used}
use Rattle.lt_types.specs.Operators.{same_type, serves_as}
use Rattle.lt_types.specs.Refusals.{all_given_misfit, alone, as_many, arguments_misfit}
use Rattle.lt_types.specs.Answer.{Leads, first}
use Rattle.lt_types.specs.inner.Scoping.{input_view, param_view}
use Rattle.lt_types.specs.declared.entry.Param.{Param}
use Rattle.lt_types.specs.declared.node_types.Input.{Input}
use Rattle.lt_types.specs.declared.refusal.TypeRefusal.TheVariants.{Arity}

-- a name with its arguments, as the code has them
pub named_used : (n : Name) (o : Option (Box Args Global)) → named_exp n (back-Expr-Named-1 o) ≡ used (word n) o
named_used n None = refl
named_used n (Some args) = ap (s.called (word n)) (arguments_list args.value.items)

-- as many arguments as parameters
pub as_many_same : (args : List Arg) (params : List Param) → length args ≡ length params → as_many (arguments_of (map argument args)) (map param_view params) ≡ true
as_many_same [] [] h = refl
as_many_same [] (p ∷ ps) h = absurd (omega arith)
as_many_same (a ∷ rest) [] h = absurd (omega arith)
as_many_same (a ∷ rest) (p ∷ ps) h = as_many_same rest ps (omega arith)

pub as_many_other : (args : List Arg) (params : List Param) → length args ≢ length params → as_many (arguments_of (map argument args)) (map param_view params) ≡ false
as_many_other [] [] h = absurd (h refl)
as_many_other [] (p ∷ ps) h = refl
as_many_other (a ∷ rest) [] h = refl
as_many_other (a ∷ rest) (p ∷ ps) h = as_many_other rest ps (λ e. h (ap suc e))

pub ruleset as_many_steps = (as_many_same, as_many_other)

-- a trace for a trace
pub served_trace : (kind : TypeName) → serves_as t.Trace kind ≡ same_type kind t.Trace
served_trace t.Bool = refl
served_trace t.Int = refl
served_trace t.Real = refl
served_trace t.Trace = refl

-- a macro with parameters isn't used alone
pub alone_many : (w : Word) (ps : List Param) (k : TypeName) → 0 < length ps → Leads (Arity w.span) (alone w (Some (macro (map param_view ps) k)))
alone_many w [] k h = absurd (omega arith)
alone_many w (p ∷ ps) k h = first (Arity w.span) []

-- without parameters no argument is judged
pub arguments_misfit_none : (env : Environment) (args : Arguments) (ps : List Param) → length ps ≤ 0 → arguments_misfit env args (map param_view ps) ≡ []
arguments_misfit_none env s.no_arguments ps h = refl
arguments_misfit_none env (s.argument a rest) [] h = refl
arguments_misfit_none env (s.argument a rest) (p ∷ ps) h = absurd (omega arith)

-- nor is an expression without inputs
pub all_given_misfit_none : (env : Environment) (es : List Exp) (inputs : List Input) → length inputs ≤ 0 → all_given_misfit env es (map input_view inputs) ≡ []
all_given_misfit_none env [] inputs h = refl
all_given_misfit_none env (e ∷ es) [] h = refl
all_given_misfit_none env (e ∷ es) (i ∷ inputs) h = absurd (omega arith)
