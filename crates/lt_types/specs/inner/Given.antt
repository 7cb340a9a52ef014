-- What the code has of a construct: arguments and first values with their types and places, and which traces have names.
use Rattle.std.specs.Prelude.{List, [], map}
use Rattle.std.specs.declared.option.Option.{Option}
use Rattle.std.specs.declared.option.Option.TheVariants.{None, Some}
use Rattle.std.specs.declared.boxed.Box.{Box}
use Rattle.std.specs.declared.alloc.Global.{Global}
use Rattle.lt_ast.specs.declared.group.TypeName.{TypeName}
use Rattle.lt_ast.specs.declared.group.TypeName.TheVariants as t
use Rattle.lt_ast.specs.declared.expr.Args.{Args}
use Rattle.lt_ast.specs.declared.group.Groups.{Groups}
use Rattle.lt_ast.specs.declared.program.NodeDecl.{NodeDecl}
use Rattle.lt_ast.specs.declared.span.Span.{Span}
use Rattle.lt_ast.specs.Syntax as s
use Rattle.lt_ast.specs.Syntax.{Word, Exp, Argument, MaybeExp, Parameters, Trace, Declaration}
use Rattle.lt_ast.specs.inner.Lists.{arguments_of}
use Rattle.lt_ast.specs.View.{argument, groupings, run, trace, word}
use Rattle.lt_types.specs.Environment.{Environment}
use Rattle.lt_types.specs.declared.refusal.TypeRefusal.{TypeRefusal}
use Rattle.lt_types.specs.Operators.{same_type}
use Rattle.lt_ast.specs.Places.{span_of}
use Rattle.lt_types.specs.Refusals.{type_of, typed}

-- a name, with its arguments where it has a list of them
abbrev pub used : Word → Option (Box Args Global) → Exp
used w None = s.named w
used w (Some args) = s.called w (arguments_of (map argument args.value.items.items))

-- the type of an argument, where it has one
abbrev pub argument_type : Environment → Argument → Option TypeName
argument_type env (s.value_argument e) = type_of env e
argument_type env (s.trace_argument b at) = Some t.Trace

-- the place of an argument
abbrev pub argument_span : Argument → Span
argument_span (s.value_argument e) = span_of e
argument_span (s.trace_argument b at) = at

-- the type of a first value, where there is one
abbrev pub first_type : Environment → MaybeExp → Option TypeName
first_type env s.no_exp = None
first_type env (s.an_exp e) = type_of env e

-- the parameters of a macro, where it has a list of them
abbrev pub parameters_view : Option Groups → Parameters
parameters_view None = s.no_parameters
parameters_view (Some gs) = s.parameters (groupings gs)

-- a first value of a type, if there is one, is of the type that is wanted
abbrev pub first_judged : TypeName → Option TypeName → MaybeExp → List TypeRefusal
first_judged kind own s.no_exp = []
first_judged kind own (s.an_exp e) = typed (λ k. same_type k kind) own (span_of e)

-- a trace with names of its own
abbrev pub IsScoped : Trace → Type 0
IsScoped (s.exist gs x) = Unit {0}
IsScoped (s.define m x) = Unit {0}
IsScoped (s.exceptions ws x) = Unit {0}
IsScoped (s.trap w x h) = Unit {0}
IsScoped x = ⊥

-- a node of a text
abbrev pub node_declaration : NodeDecl → Declaration
node_declaration n =
    s.node (word n.name) (groupings n.inputs) (groupings n.outputs) (map run n.runs.items)
    (trace n.body)
