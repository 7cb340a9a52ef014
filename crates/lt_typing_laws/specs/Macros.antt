-- Programs in which a macro stands for a trace only where its type is that of traces. The grammar gives no others: of another
-- type a macro stands for an expression. The rules of types take this for granted.
use Rattle.std.specs.Prelude.{◌≡◌, List, [], ◌∷◌}
use Rattle.lt_ast.specs.declared.group.TypeName.{TypeName}
use Rattle.lt_ast.specs.declared.group.TypeName.TheVariants as t
use Rattle.lt_ast.specs.Syntax as s
use Rattle.lt_ast.specs.Syntax.{Exp, Argument, Arguments, Limits, Braces, Alternative, Alternatives, Trace, Traces, Grouping, Groupings, MaybeExp, MaybeTrace, Meaning, Macro, Run, Declaration}

abbrev mutual
  -- so it is in an expression
  pub FitInExp : Exp → Type 0
  FitInExp (s.number f) = Unit {0}
  FitInExp (s.flag b at) = Unit {0}
  FitInExp (s.named w) = Unit {0}
  FitInExp (s.called w args) = FitInArguments args
  FitInExp (s.pre w at) = Unit {0}
  FitInExp (s.paren e at) = FitInExp e
  FitInExp (s.unary op e at) = FitInExp e
  FitInExp (s.binary op d e at) = FitInExp d × FitInExp e
  FitInExp (s.choose c d e at) = FitInExp c × FitInExp d × FitInExp e

  -- in an argument
  pub FitInArgument : Argument → Type 0
  FitInArgument (s.value_argument e) = FitInExp e
  FitInArgument (s.trace_argument b at) = FitInBraces b

  -- in arguments
  pub FitInArguments : Arguments → Type 0
  FitInArguments s.no_arguments = Unit {0}
  FitInArguments (s.argument a rest) = FitInArgument a × FitInArguments rest

  -- in the bounds of a loop
  pub FitInLimits : Limits → Type 0
  FitInLimits s.forever = Unit {0}
  FitInLimits (s.between d e) = FitInExp d × FitInExp e
  FitInLimits (s.around d e) = FitInExp d × FitInExp e

  -- in what stands in braces
  pub FitInBraces : Braces → Type 0
  FitInBraces (s.plain x) = FitInTrace x
  FitInBraces (s.choice lead ps) = FitInAlternatives ps
  FitInBraces (s.priority lead xs) = FitInTraces xs
  FitInBraces (s.parallel lead xs) = FitInTraces xs

  -- in an alternative
  pub FitInAlternative : Alternative → Type 0
  FitInAlternative (s.unweighted x) = FitInTrace x
  FitInAlternative (s.weighted e x) = FitInExp e × FitInTrace x

  -- in alternatives
  pub FitInAlternatives : Alternatives → Type 0
  FitInAlternatives s.no_alternatives = Unit {0}
  FitInAlternatives (s.alternative p ps) = FitInAlternative p × FitInAlternatives ps

  -- in traces
  pub FitInTraces : Traces → Type 0
  FitInTraces s.no_traces = Unit {0}
  FitInTraces (s.one_trace x xs) = FitInTrace x × FitInTraces xs

  -- in a group
  pub FitInGroup : Grouping → Type 0
  FitInGroup (s.grouping ws kind ref range first) = FitInFirst first

  -- in groups
  pub FitInGroups : Groupings → Type 0
  FitInGroups s.no_groups = Unit {0}
  FitInGroups (s.one_group g gs) = FitInGroup g × FitInGroups gs

  -- in a first value
  pub FitInFirst : MaybeExp → Type 0
  FitInFirst s.no_exp = Unit {0}
  FitInFirst (s.an_exp e) = FitInExp e

  -- in a `do` part
  pub FitInHandler : MaybeTrace → Type 0
  FitInHandler s.no_trace = Unit {0}
  FitInHandler (s.a_trace x) = FitInTrace x

  -- in what a macro of a type stands for
  pub FitInMeaning : TypeName → Meaning → Type 0
  FitInMeaning kind (s.trace_meaning x) = (kind ≡ t.Trace) × FitInTrace x
  FitInMeaning kind (s.value_meaning e) = FitInExp e

  -- in a macro, but for first values of its parameters, which no well typed program has
  pub FitInMacro : Macro → Type 0
  FitInMacro (s.macro w ps kind m) = FitInMeaning kind m

  -- in a trace
  pub FitInTrace : Trace → Type 0
  FitInTrace (s.sequence xs) = FitInTraces xs
  FitInTrace (s.braces b at) = FitInBraces b
  FitInTrace (s.loop l x) = FitInLimits l × FitInTrace x
  FitInTrace (s.raise w) = Unit {0}
  FitInTrace (s.assert e x) = FitInExp e × FitInTrace x
  FitInTrace (s.exist gs x) = FitInGroups gs × FitInTrace x
  FitInTrace (s.define m x) = FitInMacro m × FitInTrace x
  FitInTrace (s.exceptions ws x) = FitInTrace x
  FitInTrace (s.catch w x h) = FitInTrace x × FitInHandler h
  FitInTrace (s.trap w x h) = FitInTrace x × FitInHandler h
  FitInTrace (s.try x h) = FitInTrace x × FitInHandler h
  FitInTrace (s.value e) = FitInExp e

-- in expressions
abbrev pub FitInExps : List Exp → Type 0
FitInExps [] = Unit {0}
FitInExps (e ∷ es) = FitInExp e × FitInExps es

-- in runs
abbrev pub FitInRuns : List Run → Type 0
FitInRuns [] = Unit {0}
FitInRuns (r ∷ rs) = FitInExps r.arguments × FitInRuns rs

-- in a declaration
abbrev pub FitInDeclaration : Declaration → Type 0
FitInDeclaration (s.node w ins outs rs x) =
    FitInGroups ins × FitInGroups outs × FitInRuns rs × FitInTrace x
FitInDeclaration (s.macro_declaration m) = FitInMacro m
FitInDeclaration (s.exception_declaration ws) = Unit {0}

-- Each macro of a program stands for a trace only where its type is that of traces; of those in first values of parameters nothing
-- is said.
abbrev pub MacrosFitTheirTypes : List Declaration → Type 0
MacrosFitTheirTypes [] = Unit {0}
MacrosFitTheirTypes (d ∷ ds) = FitInDeclaration d × MacrosFitTheirTypes ds
