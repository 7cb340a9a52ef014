-- What the grammar gives has macros that stand for what their types say.
use Rattle.std.proofs.Common.{◌≡◌, ℕ, suc, true, false, List, [], ◌∷◌, refl}
use Rattle.lt_ast.specs.declared.group.TypeName.{TypeName}
use Rattle.lt_ast.specs.declared.group.TypeName.TheVariants as ty
use Rattle.lt_ast.specs.declared.sign.Sign.{Sign}
use Rattle.lt_ast.specs.declared.sign.Sign.TheVariants as t
use Rattle.lt_ast.specs.declared.span.Span.{Span}
use Rattle.lt_ast.specs.Syntax as s
use Rattle.lt_ast.specs.Syntax.{Exp, Argument, Arguments, Limits, Braces, Alternative, Alternatives, Trace, Traces, Grouping, Groupings, MaybeExp, MaybeTrace, Meaning, Macro, Run, Declaration}
use Rattle.lt_ast.specs.Tokens.{binary_sign}
use Rattle.lt_grammar.specs.Lexemes.{lexeme, Lexemes}
use Rattle.lt_grammar.specs.Grammar.{opened, Means, Place, whole, item, DerivesExp, DerivesArgument, DerivesArguments, DerivesMoreArguments, DerivesBraced, DerivesChoice, DerivesUnweighted, DerivesMoreAlternatives, DerivesAlternative, DerivesTraces, DerivesMoreTraces, DerivesLimits, DerivesBound, DerivesGrouping, DerivesFirst, DerivesGroups, DerivesMoreGroups, DerivesMeaning, DerivesMacro, DerivesTrace, DerivesSequence, DerivesMoreItems, DerivesHandler, DerivesMoreExpressions, DerivesExpressions, DerivesRun, DerivesRuns, DerivesDeclaration, SpellsWithin}
use Rattle.lt_grammar.specs.Nesting.{most_levels}
use Rattle.lt_typing_laws.specs.TextLaws.{SpelledMacrosFit, TextsKeepTypes}
use Rattle.lt_typing_laws.specs.Laws.{ExpansionKeepsTypes}
use Rattle.lt_typing_laws.specs.Macros.{FitInExp, FitInArgument, FitInArguments, FitInLimits, FitInBraces, FitInAlternative, FitInAlternatives, FitInTraces, FitInGroup, FitInGroups, FitInFirst, FitInHandler, FitInMeaning, FitInMacro, FitInTrace, FitInExps, FitInRuns, FitInDeclaration, MacrosFitTheirTypes}

-- a macro that stands for a trace has the type of traces
trace_type : (kind : TypeName) (x : Trace) → Means kind (s.trace_meaning x) → kind ≡ ty.Trace
trace_type ty.Bool x h = absurd h
trace_type ty.Int x h = absurd h
trace_type ty.Real x h = absurd h
trace_type ty.Trace x h = refl

mutual
  exp_fits : (most d : ℕ) (ts : Lexemes) (e : Exp) (rest : Lexemes) → DerivesExp most d ts e rest → FitInExp e
  exp_fits most d ts (s.number f) rest h = tt
  exp_fits most d ts (s.flag b at) rest h = tt
  exp_fits most d ts (s.named n) rest h = tt
  exp_fits most d ts (s.called n args) rest h = arguments_fit most (suc d) h.2 args rest h.5
  exp_fits most d ts (s.pre n at) rest h = tt
  exp_fits most d ts (s.paren e at) rest h = exp_fits most (suc d) h.2 e (lexeme t.Close h.5 h.6 ∷ rest) h.7
  exp_fits most d ts (s.unary op e at) rest h = exp_fits most (suc d) h.2 e rest h.6
  exp_fits most d ts (s.binary op e f at) rest h = (exp_fits most d ts e (lexeme (binary_sign op) h.3 h.4 ∷ h.5) h.6, exp_fits most (opened op d) h.5 f rest h.7)
  exp_fits most d ts (s.choose e f g at) rest h =
      (exp_fits most (suc d) h.2 e (lexeme t.Then h.5 h.6 ∷ h.7) h.8, exp_fits most (suc d) h.7 f (lexeme t.Else h.9 h.10 ∷ h.11) h.12, exp_fits most (suc d) h.11 g rest h.13)

  argument_fits : (most d : ℕ) (ts : Lexemes) (a : Argument) (rest : Lexemes) → DerivesArgument most d ts a rest → FitInArgument a
  argument_fits most d ts (s.value_argument e) rest h = exp_fits most d ts e rest h
  argument_fits most d ts (s.trace_argument x at) rest h = braced_fits most (suc d) h.2 x h.5 rest h.6

  arguments_fit : (most d : ℕ) (ts : Lexemes) (args : Arguments) (rest : Lexemes) → DerivesArguments most d ts args rest → FitInArguments args
  arguments_fit most d ts s.no_arguments rest h = tt
  arguments_fit most d ts (s.argument a more) rest h = (argument_fits most d ts a h.0 h.1, more_arguments_fit most d h.0 more rest h.2)

  more_arguments_fit : (most d : ℕ) (ts : Lexemes) (args : Arguments) (rest : Lexemes) → DerivesMoreArguments most d ts args rest → FitInArguments args
  more_arguments_fit most d ts s.no_arguments rest h = tt
  more_arguments_fit most d ts (s.argument a more) rest h = (argument_fits most d h.2 a h.4 h.5, more_arguments_fit most d h.4 more rest h.6)

  braced_fits : (most d : ℕ) (ts : Lexemes) (x : Braces) (q : Span) (rest : Lexemes) → DerivesBraced most d ts x q rest → FitInBraces x
  braced_fits most d ts (s.plain x) q rest h = trace_fits most d whole ts x (lexeme t.CloseBrace h.0 q ∷ rest) h.1
  braced_fits most d ts (s.choice true ps) q rest h = more_alternatives_fit most d ts ps q rest h.1
  braced_fits most d ts (s.choice false ps) q rest h = choice_fits most d ts ps q rest h
  braced_fits most d ts (s.priority true xs) q rest h = more_traces_fit most d t.Priority ts xs q rest h.1
  braced_fits most d ts (s.priority false xs) q rest h = traces_fit most d t.Priority ts xs q rest h
  braced_fits most d ts (s.parallel true xs) q rest h = more_traces_fit most d t.Parallel ts xs q rest h.1
  braced_fits most d ts (s.parallel false xs) q rest h = traces_fit most d t.Parallel ts xs q rest h

  choice_fits : (most d : ℕ) (ts : Lexemes) (ps : Alternatives) (q : Span) (rest : Lexemes) → DerivesChoice most d ts ps q rest → FitInAlternatives ps
  choice_fits most d ts s.no_alternatives q rest h = tt
  choice_fits most d ts (s.alternative p more) q rest h = (unweighted_fits most d ts p h.0 h.1, more_alternatives_fit most d h.0 more q rest h.3)

  unweighted_fits : (most d : ℕ) (ts : Lexemes) (p : Alternative) (rest : Lexemes) → DerivesUnweighted most d ts p rest → FitInAlternative p
  unweighted_fits most d ts (s.unweighted x) rest h = trace_fits most d whole ts x rest h
  unweighted_fits most d ts (s.weighted e x) rest h = absurd h

  more_alternatives_fit : (most d : ℕ) (ts : Lexemes) (ps : Alternatives) (q : Span) (rest : Lexemes) → DerivesMoreAlternatives most d ts ps q rest → FitInAlternatives ps
  more_alternatives_fit most d ts s.no_alternatives q rest h = tt
  more_alternatives_fit most d ts (s.alternative p more) q rest h = (alternative_fits most d h.2 p h.4 h.5, more_alternatives_fit most d h.4 more q rest h.6)

  alternative_fits : (most d : ℕ) (ts : Lexemes) (p : Alternative) (rest : Lexemes) → DerivesAlternative most d ts p rest → FitInAlternative p
  alternative_fits most d ts (s.unweighted x) rest h = trace_fits most d whole ts x rest h.0
  alternative_fits most d ts (s.weighted e x) rest h = (exp_fits most d ts e (lexeme t.Colon h.0 h.1 ∷ h.2) h.3, trace_fits most d whole h.2 x rest h.4)

  traces_fit : (most d : ℕ) (sign : Sign) (ts : Lexemes) (xs : Traces) (q : Span) (rest : Lexemes) → DerivesTraces most d sign ts xs q rest → FitInTraces xs
  traces_fit most d sign ts s.no_traces q rest h = tt
  traces_fit most d sign ts (s.one_trace x more) q rest h = (trace_fits most d whole ts x h.0 h.1, more_traces_fit most d sign h.0 more q rest h.3)

  more_traces_fit : (most d : ℕ) (sign : Sign) (ts : Lexemes) (xs : Traces) (q : Span) (rest : Lexemes) → DerivesMoreTraces most d sign ts xs q rest → FitInTraces xs
  more_traces_fit most d sign ts s.no_traces q rest h = tt
  more_traces_fit most d sign ts (s.one_trace x more) q rest h = (trace_fits most d whole h.2 x h.4 h.5, more_traces_fit most d sign h.4 more q rest h.6)

  limits_fit : (most d : ℕ) (ts : Lexemes) (l : Limits) (rest : Lexemes) → DerivesLimits most d ts l rest → FitInLimits l
  limits_fit most d ts s.forever rest h = tt
  limits_fit most d ts (s.between e f) rest h = (exp_fits most d h.2 e (lexeme t.Comma h.4 h.5 ∷ h.6) h.7, exp_fits most d h.6 f (lexeme t.CloseBracket h.8 h.9 ∷ rest) h.10)
  limits_fit most d ts (s.around e f) rest h = (bound_fits most d h.2 e (lexeme t.Colon h.4 h.5 ∷ h.6) h.7, bound_fits most d h.6 f rest h.8)

  bound_fits : (most d : ℕ) (ts : Lexemes) (e : Exp) (rest : Lexemes) → DerivesBound most d ts e rest → FitInExp e
  bound_fits most d ts (s.number f) rest h = tt
  bound_fits most d ts (s.flag b at) rest h = tt
  bound_fits most d ts (s.named n) rest h = tt
  bound_fits most d ts (s.called n args) rest h = absurd h
  bound_fits most d ts (s.pre n at) rest h = tt
  bound_fits most d ts (s.paren e at) rest h = exp_fits most (suc d) h.2 e (lexeme t.Close h.5 h.6 ∷ rest) h.7
  bound_fits most d ts (s.unary op e at) rest h = absurd h
  bound_fits most d ts (s.binary op e f at) rest h = absurd h
  bound_fits most d ts (s.choose e f g at) rest h = absurd h

  grouping_fits : (most d : ℕ) (ts : Lexemes) (g : Grouping) (rest : Lexemes) → DerivesGrouping most d ts g rest → FitInGroup g
  grouping_fits most d ts (s.grouping ns kind by_ref range first) rest h = first_fits most d h.8 first rest h.10

  first_fits : (most d : ℕ) (ts : Lexemes) (first : MaybeExp) (rest : Lexemes) → DerivesFirst most d ts first rest → FitInFirst first
  first_fits most d ts s.no_exp rest h = tt
  first_fits most d ts (s.an_exp e) rest h = exp_fits most d h.2 e rest h.4

  groups_fit : (most d : ℕ) (end : Sign) (ts : Lexemes) (gs : Groupings) (rest : Lexemes) → DerivesGroups most d end ts gs rest → FitInGroups gs
  groups_fit most d end ts s.no_groups rest h = tt
  groups_fit most d end ts (s.one_group g more) rest h = (grouping_fits most d ts g h.0 h.1, more_groups_fit most d end h.0 more rest h.2)

  more_groups_fit : (most d : ℕ) (end : Sign) (ts : Lexemes) (gs : Groupings) (rest : Lexemes) → DerivesMoreGroups most d end ts gs rest → FitInGroups gs
  more_groups_fit most d end ts s.no_groups rest h = tt
  more_groups_fit most d end ts (s.one_group g more) rest h = (grouping_fits most d h.2 g h.4 h.5, more_groups_fit most d end h.4 more rest h.6)

  meaning_fits : (most d : ℕ) (ts : Lexemes) (kind : TypeName) (x : Meaning) (rest : Lexemes) → Means kind x → DerivesMeaning most d ts x rest → FitInMeaning kind x
  meaning_fits most d ts kind (s.trace_meaning x) rest n h = (trace_type kind x n, trace_fits most d whole ts x rest h)
  meaning_fits most d ts kind (s.value_meaning e) rest n h = exp_fits most d ts e rest h.0

  macro_fits : (most d : ℕ) (ts : Lexemes) (x : Macro) (rest : Lexemes) → DerivesMacro most d ts x rest → FitInMacro x
  macro_fits most d ts (s.macro n ps kind x) rest h = meaning_fits most d h.8 kind x rest h.10 h.11

  trace_fits : (most d : ℕ) (place : Place) (ts : Lexemes) (x : Trace) (rest : Lexemes) → DerivesTrace most d place ts x rest → FitInTrace x
  trace_fits most d place ts (s.sequence xs) rest h = sequence_fits most d ts xs rest h.1
  trace_fits most d place ts (s.braces x at) rest h = braced_fits most (suc d) h.2 x h.5 rest h.6
  trace_fits most d place ts (s.loop l x) rest h = (limits_fit most (suc d) h.2 l h.5 h.6, trace_fits most (suc d) item h.5 x rest h.7)
  trace_fits most d place ts (s.raise n) rest h = tt
  trace_fits most d place ts (s.assert e x) rest h = (exp_fits most (suc d) h.2 e (lexeme t.In h.5 h.6 ∷ h.7) h.8, trace_fits most (suc d) whole h.7 x rest h.9)
  trace_fits most d place ts (s.exist gs x) rest h = (groups_fit most (suc d) t.In h.2 gs h.6 h.7, trace_fits most (suc d) whole h.6 x rest h.8)
  trace_fits most d place ts (s.define x y) rest h = (macro_fits most (suc d) h.2 x (lexeme t.In h.5 h.6 ∷ h.7) h.8, trace_fits most (suc d) whole h.7 y rest h.9)
  trace_fits most d place ts (s.exceptions ns x) rest h = trace_fits most (suc d) whole h.7 x rest h.9
  trace_fits most d place ts (s.catch n x y) rest h = (trace_fits most (suc d) whole h.4 x h.7 h.8, handler_fits most (suc d) h.7 y rest h.9)
  trace_fits most d place ts (s.trap n x y) rest h = (trace_fits most (suc d) whole h.4 x h.7 h.8, handler_fits most (suc d) h.7 y rest h.9)
  trace_fits most d place ts (s.try x y) rest h = (trace_fits most (suc d) whole h.2 x h.5 h.6, handler_fits most (suc d) h.5 y rest h.7)
  trace_fits most d place ts (s.value e) rest h = exp_fits most d ts e rest h.0

  sequence_fits : (most d : ℕ) (ts : Lexemes) (xs : Traces) (rest : Lexemes) → DerivesSequence most d ts xs rest → FitInTraces xs
  sequence_fits most d ts s.no_traces rest h = tt
  sequence_fits most d ts (s.one_trace x more) rest h = (trace_fits most d item ts x h.0 h.1, more_items_fit most d h.0 more rest h.3)

  more_items_fit : (most d : ℕ) (ts : Lexemes) (xs : Traces) (rest : Lexemes) → DerivesMoreItems most d ts xs rest → FitInTraces xs
  more_items_fit most d ts s.no_traces rest h = tt
  more_items_fit most d ts (s.one_trace x more) rest h = (trace_fits most d item h.2 x h.4 h.5, more_items_fit most d h.4 more rest h.6)

  handler_fits : (most d : ℕ) (ts : Lexemes) (x : MaybeTrace) (rest : Lexemes) → DerivesHandler most d ts x rest → FitInHandler x
  handler_fits most d ts s.no_trace rest h = tt
  handler_fits most d ts (s.a_trace x) rest h = trace_fits most d whole h.2 x rest h.4

more_expressions_fit : (most d : ℕ) (ts : Lexemes) (es : List Exp) (rest : Lexemes) → DerivesMoreExpressions most d ts es rest → FitInExps es
more_expressions_fit most d ts [] rest h = tt
more_expressions_fit most d ts (e ∷ es) rest h = (exp_fits most d h.2 e h.4 h.5, more_expressions_fit most d h.4 es rest h.6)

expressions_fit : (most d : ℕ) (ts : Lexemes) (es : List Exp) (rest : Lexemes) → DerivesExpressions most d ts es rest → FitInExps es
expressions_fit most d ts [] rest h = tt
expressions_fit most d ts (e ∷ es) rest h = (exp_fits most d ts e h.0 h.1, more_expressions_fit most d h.0 es rest h.2)

runs_fit : (most d : ℕ) (ts : Lexemes) (rs : List Run) (x : Trace) (rest : Lexemes) → DerivesRuns most d ts rs x rest → FitInRuns rs × FitInTrace x
runs_fit most d ts [] x rest h = (tt, trace_fits most d whole ts x rest h)
runs_fit most d ts (r ∷ rs) x rest h =
    let run : DerivesRun most d ts r h.0 = h.1 in
    let behind = runs_fit most (suc d) h.0 rs x rest h.2 in
    ((expressions_fit most (suc (suc d)) run.9 r.arguments (lexeme t.In run.12 run.13 ∷ h.0) run.14, behind.0), behind.1)

declaration_fits : (most : ℕ) (ts : Lexemes) (x : Declaration) (rest : Lexemes) → DerivesDeclaration most ts x rest → FitInDeclaration x
declaration_fits most ts (s.node n ins outs rs x) rest h = (
  groups_fit most 1 t.Close h.4 ins (lexeme t.Returns h.7 h.8 ∷ (lexeme t.Open h.9 h.10 ∷ h.11)) h.12,
  groups_fit most 1 t.Close h.11 outs (lexeme t.Equal h.13 h.14 ∷ h.15) h.16,
  (runs_fit most 0 h.15 rs x rest h.17).0,
  (runs_fit most 0 h.15 rs x rest h.17).1,
)
declaration_fits most ts (s.macro_declaration x) rest h = macro_fits most 0 h.2 x rest h.4
declaration_fits most ts (s.exception_declaration ns) rest h = tt

program_fits : (most : ℕ) (ts : Lexemes) (ds : List Declaration) → SpellsWithin most ts ds → MacrosFitTheirTypes ds
program_fits most ts [] h = tt
program_fits most ts (d ∷ ds) h = (declaration_fits most ts d h.0 h.1, program_fits most h.0 ds h.2)

pub macros_fit : SpelledMacrosFit
macros_fit text ds h = program_fits most_levels h.0 ds h.2

pub texts_keep_types : SpelledMacrosFit → ExpansionKeepsTypes → TextsKeepTypes
texts_keep_types fit keeps text decimals wanted ds node p h e = keeps decimals wanted ds node h (fit text ds p) e
