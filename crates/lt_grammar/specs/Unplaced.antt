-- Programs and tokens without their places.
use Rattle.std.specs.Prelude.{◌≡◌, ℕ, List, [], ◌∷◌, map, Option, Some, None}
use Rattle.lt_ast.specs.declared.span.Span.{Span}
use Rattle.lt_ast.specs.Syntax as s
use Rattle.lt_ast.specs.Syntax.{Word, Figure, WrittenRange, Exp, Argument, Arguments, Limits, Braces, Alternative, Alternatives, Trace, Traces, Grouping, Groupings, MaybeExp, MaybeTrace, Parameters, Meaning, Macro, Run, Declaration}
use Rattle.lt_grammar.specs.Lexemes.{Lexeme, lexeme, Lexemes}
use Rattle.lt_grammar.specs.Grammar.{SpellsWithin}

-- TREES

-- the place that stands for every place
abbrev pub nowhere : Span
nowhere = record { start = 0; end = 0 }

-- a name without its place
abbrev pub unplaced_word : Word → Word
unplaced_word n = record { text = n.text; span = nowhere }

-- a number without its place
abbrev pub unplaced_figure : Figure → Figure
unplaced_figure f = record { minus = f.minus; text = f.text; span = nowhere }

-- a step without its place, or none
abbrev pub unplaced_step : Option Figure → Option Figure
unplaced_step None = None
unplaced_step (Some f) = Some (unplaced_figure f)

-- a range without its places
abbrev pub unplaced_written : WrittenRange → WrittenRange
unplaced_written r = record { low = unplaced_figure r.low; high = unplaced_figure r.high; step = unplaced_step r.step }

-- a range without its places, or none
abbrev pub unplaced_range : Option WrittenRange → Option WrittenRange
unplaced_range None = None
unplaced_range (Some r) = Some (unplaced_written r)

-- names without their places
abbrev pub unplaced_words : List Word → List Word
unplaced_words ns = map unplaced_word ns

abbrev mutual
  -- an expression without its places
  pub unplaced_exp : Exp → Exp
  unplaced_exp (s.number f) = s.number (unplaced_figure f)
  unplaced_exp (s.flag b at) = s.flag b nowhere
  unplaced_exp (s.named n) = s.named (unplaced_word n)
  unplaced_exp (s.called n args) = s.called (unplaced_word n) (unplaced_arguments args)
  unplaced_exp (s.pre n at) = s.pre (unplaced_word n) nowhere
  unplaced_exp (s.paren e at) = s.paren (unplaced_exp e) nowhere
  unplaced_exp (s.unary op e at) = s.unary op (unplaced_exp e) nowhere
  unplaced_exp (s.binary op e f at) = s.binary op (unplaced_exp e) (unplaced_exp f) nowhere
  unplaced_exp (s.choose e f g at) = s.choose (unplaced_exp e) (unplaced_exp f) (unplaced_exp g) nowhere

  -- an argument without its places
  pub unplaced_argument : Argument → Argument
  unplaced_argument (s.value_argument e) = s.value_argument (unplaced_exp e)
  unplaced_argument (s.trace_argument x at) = s.trace_argument (unplaced_braces x) nowhere

  -- arguments without their places
  pub unplaced_arguments : Arguments → Arguments
  unplaced_arguments s.no_arguments = s.no_arguments
  unplaced_arguments (s.argument a more) = s.argument (unplaced_argument a) (unplaced_arguments more)

  -- the bounds of a loop without their places
  pub unplaced_limits : Limits → Limits
  unplaced_limits s.forever = s.forever
  unplaced_limits (s.between e f) = s.between (unplaced_exp e) (unplaced_exp f)
  unplaced_limits (s.around e f) = s.around (unplaced_exp e) (unplaced_exp f)

  -- what stands in braces, without its places
  pub unplaced_braces : Braces → Braces
  unplaced_braces (s.plain x) = s.plain (unplaced_trace x)
  unplaced_braces (s.choice leads ps) = s.choice leads (unplaced_alternatives ps)
  unplaced_braces (s.priority leads xs) = s.priority leads (unplaced_traces xs)
  unplaced_braces (s.parallel leads xs) = s.parallel leads (unplaced_traces xs)

  -- an alternative without its places
  pub unplaced_alternative : Alternative → Alternative
  unplaced_alternative (s.unweighted x) = s.unweighted (unplaced_trace x)
  unplaced_alternative (s.weighted e x) = s.weighted (unplaced_exp e) (unplaced_trace x)

  -- alternatives without their places
  pub unplaced_alternatives : Alternatives → Alternatives
  unplaced_alternatives s.no_alternatives = s.no_alternatives
  unplaced_alternatives (s.alternative p more) = s.alternative (unplaced_alternative p) (unplaced_alternatives more)

  -- traces without their places
  pub unplaced_traces : Traces → Traces
  unplaced_traces s.no_traces = s.no_traces
  unplaced_traces (s.one_trace x more) = s.one_trace (unplaced_trace x) (unplaced_traces more)

  -- names of a type without their places
  pub unplaced_grouping : Grouping → Grouping
  unplaced_grouping (s.grouping ns kind by_ref range first) = s.grouping (unplaced_words ns) kind by_ref (unplaced_range range) (unplaced_first first)

  -- groups without their places
  pub unplaced_groupings : Groupings → Groupings
  unplaced_groupings s.no_groups = s.no_groups
  unplaced_groupings (s.one_group g more) = s.one_group (unplaced_grouping g) (unplaced_groupings more)

  -- a first value without its places, or none
  pub unplaced_first : MaybeExp → MaybeExp
  unplaced_first s.no_exp = s.no_exp
  unplaced_first (s.an_exp e) = s.an_exp (unplaced_exp e)

  -- what follows a `do`, without its places, or none
  pub unplaced_handler : MaybeTrace → MaybeTrace
  unplaced_handler s.no_trace = s.no_trace
  unplaced_handler (s.a_trace x) = s.a_trace (unplaced_trace x)

  -- the parameters of a macro without their places
  pub unplaced_parameters : Parameters → Parameters
  unplaced_parameters s.no_parameters = s.no_parameters
  unplaced_parameters (s.parameters gs) = s.parameters (unplaced_groupings gs)

  -- what a macro stands for, without its places
  pub unplaced_meaning : Meaning → Meaning
  unplaced_meaning (s.trace_meaning x) = s.trace_meaning (unplaced_trace x)
  unplaced_meaning (s.value_meaning e) = s.value_meaning (unplaced_exp e)

  -- a macro without its places
  pub unplaced_macro : Macro → Macro
  unplaced_macro (s.macro n ps kind x) = s.macro (unplaced_word n) (unplaced_parameters ps) kind (unplaced_meaning x)

  -- a trace without its places
  pub unplaced_trace : Trace → Trace
  unplaced_trace (s.sequence xs) = s.sequence (unplaced_traces xs)
  unplaced_trace (s.braces x at) = s.braces (unplaced_braces x) nowhere
  unplaced_trace (s.loop l x) = s.loop (unplaced_limits l) (unplaced_trace x)
  unplaced_trace (s.raise n) = s.raise (unplaced_word n)
  unplaced_trace (s.assert e x) = s.assert (unplaced_exp e) (unplaced_trace x)
  unplaced_trace (s.exist gs x) = s.exist (unplaced_groupings gs) (unplaced_trace x)
  unplaced_trace (s.define x y) = s.define (unplaced_macro x) (unplaced_trace y)
  unplaced_trace (s.exceptions ns x) = s.exceptions (unplaced_words ns) (unplaced_trace x)
  unplaced_trace (s.catch n x h) = s.catch (unplaced_word n) (unplaced_trace x) (unplaced_handler h)
  unplaced_trace (s.trap n x h) = s.trap (unplaced_word n) (unplaced_trace x) (unplaced_handler h)
  unplaced_trace (s.try x h) = s.try (unplaced_trace x) (unplaced_handler h)
  unplaced_trace (s.value e) = s.value (unplaced_exp e)

-- a run without its places
abbrev pub unplaced_run : Run → Run
unplaced_run r = record {
  names = unplaced_words r.names;
  node = unplaced_word r.node;
  arguments = map unplaced_exp r.arguments;
  span = nowhere;
}

-- a declaration without its places
abbrev pub unplaced_declaration : Declaration → Declaration
unplaced_declaration (s.node n ins outs rs x) =
    s.node (unplaced_word n) (unplaced_groupings ins) (unplaced_groupings outs)
    (map unplaced_run rs) (unplaced_trace x)
unplaced_declaration (s.macro_declaration x) = s.macro_declaration (unplaced_macro x)
unplaced_declaration (s.exception_declaration ns) = s.exception_declaration (unplaced_words ns)

-- a program without its places
abbrev pub unplaced : List Declaration → List Declaration
unplaced ds = map unplaced_declaration ds

-- TOKENS

-- Two tokens have the same sign and the same letters.
abbrev pub IsAlike : Lexeme → Lexeme → Type 0
IsAlike (lexeme sign w at) (lexeme sign' w' at') = (sign ≡ sign') × (w ≡ w')

-- They are equally many, and each is like the other's at its index.
abbrev pub AreAlike : Lexemes → Lexemes → Type 0
AreAlike [] [] = Unit {0}
AreAlike [] (u ∷ us) = ⊥
AreAlike (t ∷ ts) [] = ⊥
AreAlike (t ∷ ts) (u ∷ us) = IsAlike t u × AreAlike ts us

-- What tokens spell, tokens like them spell too, but for the places.
abbrev pub SpelledElsewhere : Type 0
SpelledElsewhere =
    (most : ℕ) (ts us : Lexemes) (x : List Declaration) → AreAlike ts us → SpellsWithin most ts x
    → (y : List Declaration) × SpellsWithin most us y × (unplaced y ≡ unplaced x)
